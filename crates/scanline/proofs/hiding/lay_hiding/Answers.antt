-- `scanline::hiding::lay_hiding` meets its contract: the row lies among the pictures, as long as the line. Assumes nothing.
use mathlib.Core.Path.{◌≡◌, sym, ◌∙◌}
use Prim.Native.Nat.{◌+◌, ◌*◌, ◌≤◌}
use native.Mathlib.Omega.{arith}
use lib.ListN.{length}
use Rattle.lists.proofs.Tab.{length-each}
use Rattle.plan.proofs.PartLaws.{length-lent}
use Rattle.scanline.specs.Engine.Lines.{OnRow, row_start}
use Rattle.scanline.proofs.FitLaws.{on_row_lem, row_fits}
use Rattle.scanline.proofs.LineLaws.{picture-own}
use Rattle.scanline.proofs.HidingLaws.{step-hiding}
use Rattle.scanline.proofs.hiding.lay_hiding.Goals as goal

pub slice_bounds-lay_opaque-end : goal.slice_bounds-lay_opaque-end
slice_bounds-lay_opaque-end c =
    let reached : OnRow c.args.step.now c.args.y = on_row_lem _ _ (sym c.is_on_row.ensures ∙ c.if-not-is_on_row.false) in
    let p = c.requires in
    let room : (let a = c.args in row_start a.step.now a.y + 4 * a.step.now.wide ≤ length a.pictures.now) =
    row_fits _ _ _ p.0 reached (p.1 c.if-step.false c.if-step-2.false) in
    omega (arith, c.row_start-from.ensures, room)

pub returns : goal.returns
returns c =
    let reached : OnRow c.args.step.now c.args.y = on_row_lem _ _ (sym c.is_on_row.ensures ∙ c.if-not-is_on_row.false) in
    let p = c.requires in
    let room : (let a = c.args in row_start a.step.now a.y + 4 * a.step.now.wide ≤ length a.pictures.now) =
    row_fits _ _ _ p.0 reached (p.1 c.if-step.false c.if-step-2.false) in
    let from = c.row_start-from.ensures in
    let whole : 4 * c.args.step.now.wide ≡ length c.args.line.now = c.if-wide-line.false in
    λ e. record {
      over = λ s l k same of m lt number.
          step-hiding s _ _ m reached _
          (picture-own s _ _ m _ _ same from c.if-step.false
          c.if-step-2.false) _ _ (whole ∙ sym (length-each _ _))
          (length-lent _ _ _ (rw (← from) at room) ∙ whole ∙ sym (length-each _ _))
          (c.lay_opaque.ensures e) of l k lt number;
    }
