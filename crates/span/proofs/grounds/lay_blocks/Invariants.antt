-- `span::grounds::lay_blocks` meets its contract: the loop has laid a part of the run, from its front up to i; the measure
-- is what is left. Assumes nothing.
use mathlib.Core.Bool.{false}
use Prim.Native.Nat.{◌-◌}
use lib.ListN.{length}
use Rattle.sixteen.specs.Engine.Lanes.{Front, anew}
use Rattle.colours.specs.Rows.{solid_byte}
use Rattle.span.specs.Engine.Laid.{lay_byte}
use Rattle.span.proofs.grounds.lay_blocks.Given as goal

abbrev pub invariant-loop-i : goal.invariant-loop-i
invariant-loop-i l = Front l.out l.initial.out (anew (lay_byte l.over false 0 (solid_byte l.fn.ground.c0 l.fn.ground.c1 l.fn.ground.c2))) l.i

abbrev pub decreases-loop-i : goal.decreases-loop-i
decreases-loop-i l = length l.initial.out - l.i
