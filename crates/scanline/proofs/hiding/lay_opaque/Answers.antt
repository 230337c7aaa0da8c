-- `scanline::hiding::lay_opaque` meets its contract: with each pixel at its own alpha the run tells, with one alpha that
-- does. Assumes nothing.
use native.Mathlib.Omega.{arith}
use mathlib.Core.Path.{◌≡◌, refl, ap, ◌∙◌}
use Rattle.lists.specs.Tab.{each}
use Rattle.span.proofs.OverLaws.{over-own}
use Rattle.scanline.proofs.GroundLaws.{ground-filled}
use Rattle.scanline.proofs.HidingLaws.{opaque-own}
use Rattle.scanline.proofs.hiding.lay_opaque.Goals as goal

pub returns-then-not-global : goal.returns-then-not-global
returns-then-not-global c = λ e.
    let r = c.lay_if_opaque.ensures e in
    rw (c.if-not-global.true)
    (record { opaque = opaque-own _ r.0; over = r.1 ∙ ap (each _) (ground-filled _ _) ∙ over-own _ _ _ })

pub returns : goal.returns
returns c = λ e.
    let full : c.args.alpha ≡ 255 = omega arith in
    rw (c.if-not-global.false, full) (record { opaque = λ u h. refl; over = c.lay_either.ensures ∙ ap (each _) (ground-filled _ _) })
