-- `span::runs::copy_blocks` meets its contract: the loop has done a part of the run, from its front up to i. Assumes
-- nothing.
use mathlib.Core.Bool.{true}
use Prim.Native.Nat.{◌*◌}
use Rattle.sixteen.specs.Engine.Lanes.{Front}
use Rattle.span.specs.Span.{over_byte}
use Rattle.span.proofs.runs.copy_blocks.Given as goal

abbrev pub invariant-loop-k : goal.invariant-loop-k
invariant-loop-k l = Front l.out l.initial.out (over_byte l.over true 255) (64 * l.k)
