-- `scanline::picture::over` meets its contract: with each pixel at its own alpha the one alpha is not looked at.
-- Assumes nothing.
use mathlib.Core.Path.{◌∙◌}
use Rattle.span.proofs.OverLaws.{over-own}
use Rattle.scanline.proofs.picture.over.Goals as goal

pub returns-then-global : goal.returns-then-global
returns-then-global c = rw c.if-global.true c.blend_flat.ensures

pub returns : goal.returns
returns c = rw c.if-global.false
    (c.blend.ensures ∙ over-own _ _ _)
