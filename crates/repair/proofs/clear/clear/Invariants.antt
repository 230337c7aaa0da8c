-- `repair::clear::clear` meets its contract: the invariant is that the words below i are clear. Assumes nothing.
use lib.ListN.{replicate}
use Rattle.lists.proofs.Upto.{Upto}
use Rattle.repair.specs.Steps.{cleared_at}
use Rattle.repair.proofs.clear.clear.Given as goal

abbrev pub invariant-loop-i : goal.invariant-loop-i
invariant-loop-i l = Upto l.words (replicate 52 0) (cleared_at l.w) l.i
