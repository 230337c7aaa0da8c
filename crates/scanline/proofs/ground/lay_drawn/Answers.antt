-- `scanline::ground::lay_drawn` meets its contract: the colour indexes, through colours over the background, are the layer
-- over it. Assumes nothing.
use mathlib.Core.Path.{◌≡◌, sym, ap, ◌∙◌}
use Prim.Native.Nat.{ℕ, ◌*◌, ◌≤◌}
use native.Mathlib.Omega.{arith}
use lib.ListN.{length, take}
use lib.Seq.{length-take-le}
use Rattle.lists.specs.Tab.{each}
use Rattle.lists.proofs.Tab.{length-each}
use Rattle.span.proofs.TintLaws.{grounded-each}
use Rattle.scanline.proofs.GroundLaws.{under-filled}
use Rattle.scanline.proofs.LineLaws.{graphics-own, step-whole}
use Rattle.scanline.proofs.ground.lay_drawn.Goals as goal

pub returns : goal.returns
returns c =
    let whole = c.requires.on_row.1 in
    let few : c.args.step.now.wide ≤ length c.args.indexes.now =
    omega (arith, whole, c.requires.first_drawn.room) in
    let room : length (take c.args.step.now.wide c.args.indexes.now) ≡ c.args.step.now.wide = length-take-le _ _ few in
    let drawn = c.draw_row.auto.indexes ∙ room in
    record {
      over = λ s same line m.
          step-whole s _ _ m c.requires.on_row.0 _
          (graphics-own s _ _ m _ _ _ same c.requires.on_row.2 (rw c.from.ensures at c.draw_row.ensures) room)
          _ _ line (whole ∙ sym (length-each _ _))
          (c.expand.ensures
          ∙ grounded-each _ _ _ _ _ _ _ _ _ c.requires.first_drawn.grounded (sym whole ∙ ap (λ (n : ℕ). 4 * n) (sym drawn))
          ∙ ap (each _) (under-filled _ _));
    }
