-- `repair::changes::list_changes` meets its contract: the invariant is that the entries of words below i are
-- listed. Assumes nothing.
use native.Mathlib.Omega.{arith}
use borrow.Author.Rules.{rules}
use Rattle.repair.proofs.ListLaws.{listed-none, listed_next, listed-all}
use Rattle.repair.proofs.changes.list_changes.Goals as goal

pub loop-i-init : goal.loop-i-init
loop-i-init c = (search rules, listed-none _ _ _)

pub loop-i-preserved : goal.loop-i-preserved
loop-i-preserved c = let i = c.loop-i.invariant in (
  i.0,
  listed_next _ _ _ _ _ _ i.1 i.0 c.loop-i-test.true c.list_one-count.ensures.value
      c.list_one-count.ensures.list_after,
)

pub returns : goal.returns
returns c =
    let all = listed-all _ _ _ _ _ _ c.loop-i.invariant.1 (omega arith) (omega arith) in
    record { count = all.0; list = all.1 }
