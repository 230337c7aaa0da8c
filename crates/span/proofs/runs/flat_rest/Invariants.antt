-- `span::runs::flat_rest` meets its contract: the loop has done a part of the run, from `from` up to i. Assumes
-- nothing.
use mathlib.Core.Bool.{true}
use Prim.Native.Nat.{◌*◌}
use Rattle.sixteen.specs.Engine.Lanes.{Reach}
use Rattle.span.specs.Span.{over_byte}
use Rattle.span.proofs.runs.flat_rest.Given as goal

abbrev pub invariant-loop-k : goal.invariant-loop-k
invariant-loop-k l = Reach l.out l.initial.out (over_byte l.over true l.alpha) l.from (4 * l.k)
