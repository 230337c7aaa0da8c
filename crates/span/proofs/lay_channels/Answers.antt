-- `span::lay_channels` meets its contract: with each pixel at its own alpha the one alpha is not looked at. Assumes nothing.
use mathlib.Core.Path.{◌∙◌}
use Rattle.span.proofs.OverLaws.{over-own}
use Rattle.span.proofs.lay_channels.Goals as goal

pub returns : goal.returns
returns c = rw c.if-global.false (c.lay.ensures ∙ over-own _ _ _)
