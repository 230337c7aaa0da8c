-- `span::tints::past_same` meets its contract: the indexes from `from` up to j are one; the measure is what is left.
-- Assumes nothing.
use Prim.Native.Nat.{◌-◌}
use lib.ListN.{length}
use Rattle.span.specs.Engine.Tints.{AllSame}
use Rattle.span.proofs.tints.past_same.Given as goal

abbrev pub invariant-loop-j : goal.invariant-loop-j
invariant-loop-j l = AllSame l.line l.from l.j l.x

abbrev pub decreases-loop-j : goal.decreases-loop-j
decreases-loop-j l = length l.line - l.j
