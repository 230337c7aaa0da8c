-- `span::tints::put_colour` meets its contract: the loop has done the blocks from `from` up to i. Assumes nothing.
use mathlib.Core.Bool.{false}
use Prim.Native.Nat.{◌+◌, ◌*◌}
use Rattle.sixteen.specs.Engine.Lanes.{Reach}
use Rattle.span.specs.Engine.Tints.{tint_byte}
use Rattle.span.proofs.tints.put_colour.Given as goal

abbrev pub invariant-loop-k : goal.invariant-loop-k
invariant-loop-k l = Reach l.out l.initial.out (tint_byte l.c false 0) l.from (l.from + 64 * l.k)
