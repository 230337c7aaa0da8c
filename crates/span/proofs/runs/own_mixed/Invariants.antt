-- `span::runs::own_mixed` meets its contract: the loop has done a part of the run, from `from` up to i, where another
-- block begins; the measure is what is left. Assumes nothing.
use mathlib.Core.Bool.{false}
use Prim.Native.Nat.{◌+◌, ◌-◌, ◌≤◌}
use lib.ListN.{length}
use Rattle.sixteen.specs.Engine.Lanes.{Reach}
use Rattle.span.specs.Span.{over_byte}
use Rattle.span.proofs.runs.own_mixed.Given as goal

abbrev pub invariant-loop : goal.invariant-loop
invariant-loop l = Reach l.out l.initial.out (over_byte l.over false 0) l.from l.i × (l.i + 64 ≤ length l.initial.out)

abbrev pub decreases-loop : goal.decreases-loop
decreases-loop l = length l.initial.out - l.i
