-- `paint::rows::lay_lines` meets its contract: the first k lines are painted. Assumes nothing.
use mathlib.Core.Path.{◌≡◌, sym, ap, ◌∙◌}
use mathlib.Core.List.{List}
use Prim.Native.Nat.{ℕ, ◌+◌, ◌*◌, ◌≤◌}
use native.Mathlib.Omega.{arith}
use lib.ListN.{length}
use Rattle.words.specs.Fields.{width_of, grounds_of}
use Rattle.plan.proofs.PartLaws.{length-lent}
use Rattle.paint.proofs.GroundLaws.{under-line}
use Rattle.paint.proofs.RowsLaws.{rows_none, rows-lent, rows_all, rows-room}
use Rattle.paint.proofs.rows.lay_lines.Goals as goal

pub loop-k-init : goal.loop-k-init
loop-k-init c = λ s same of. rows_none s c.args.part _ (rw same.0 c.requires.out_len.1) _

pub loop-k-preserved : goal.loop-k-preserved
loop-k-preserved c =
    let stride : 4 * c.from-stride.result ≡ 4 * width_of c.args.w.now =
    ap (λ (n : ℕ). 4 * n) (c.from-stride.ensures ∙ c.screen_width.ensures) in
    let room : c.loop-k.k * (4 * c.from-stride.result) + 4 * c.from-stride.result ≤ length c.loop-k.out =
    rows-room _ _ _ _ _ stride c.loop-k-test.true (c.loop-k.auto.out ∙ c.requires.out_len.0) in
    λ s same of.
    let q = stride ∙ ap (λ (w : List ℕ). 4 * width_of w) (sym same.0) in
    let long = length-lent _ _ _ room ∙ q in
    rows-lent s c.args.part _ (rw same.0 c.requires.out_len.1) _ _ _ _ _ q room (c.loop-k.invariant s same of)
    (under-line s c.args.part _ _ _ _ _ of.order of.end
    (record { from = omega arith; to = omega (arith, c.loop-k-test.true) })
    (λ g e. c.requires.backed g e ∙ ap grounds_of (sym same.0)) (omega (arith, of.planned.count))
    (c.lay_line.ensures.over s _ same.1 long of.planned))

pub returns : goal.returns
returns c =
    record {
      laid = λ s same of.
          rows_all s _ _ (rw same.0 c.requires.out_len.1) _ _ _ c.loop-k-test.false (rw same.0 c.requires.out_len.0)
          (c.loop-k.invariant s same of);
    }
