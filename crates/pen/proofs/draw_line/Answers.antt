-- `draw_line` meets its contract: before each turn the line is as the first k instructions draw it, and one whose
-- span has no such row leaves it so. Assumes nothing.
use mathlib.Core.Path.{ap, ◌∙◌}
use native.Mathlib.Omega.{arith}
use lib.ListN.{length}
use borrow.Author.Rules.{rules}
use Rattle.lists.proofs.Tab.{length-each}
use Rattle.draw.proofs.IndexLaws.{count_of-le}
use Rattle.pen.proofs.LineLaws.{line-start, line-next, line-last}
use Rattle.pen.proofs.SpanLaws.{line-beside}
use Rattle.pen.proofs.draw_line.Goals as goal
use Rattle.pen.proofs.draw_line.Goals.{then-is_on, else-is_on}

pub loop-k-init : goal.loop-k-init
loop-k-init c = (omega (arith, count_of-le c.args.banks.now.list.now), search (line-start, rules))

pub loop-k-preserved : goal.loop-k-preserved
loop-k-preserved c = (
  omega arith,
  line-next _ _ _ _ _ _ _ c.loop-k.invariant.1
      (elim c.if-is_on.branch [
        | then-is_on w ↦ w.line-is ∙ w.draw_one.ensures
        | else-is_on w ↦ w.line-is
            ∙ line-beside _ _ _ _ _ _ _ _ _ _ c.requires.spanned c.loop-k-test.true c.is_on.ensures w.if-is_on.false
      ]),
)

pub returns : goal.returns
returns c = line-last _ _ _ _ _ _ c.loop-k.k c.loop-k.invariant.1
    (ap length c.fill_run.ensures ∙ length-each _ _) (omega arith)
