-- `span::grounds::lay_flat_blocks` meets its contract: the loop has laid a part of the run, from its front up to i.
-- Assumes nothing.
use mathlib.Core.Bool.{true}
use Prim.Native.Nat.{◌*◌}
use Rattle.sixteen.specs.Engine.Lanes.{Front, anew}
use Rattle.colours.specs.Rows.{solid_byte}
use Rattle.span.specs.Engine.Laid.{lay_byte}
use Rattle.span.proofs.grounds.lay_flat_blocks.Given as goal

abbrev pub invariant-loop-k : goal.invariant-loop-k
invariant-loop-k l = Front l.out l.initial.out (anew (lay_byte l.over true l.alpha (solid_byte l.fn.ground.c0 l.fn.ground.c1 l.fn.ground.c2))) (64 * l.k)
