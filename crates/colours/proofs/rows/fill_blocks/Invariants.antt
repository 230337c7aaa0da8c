-- `colours::rows::fill_blocks` meets its contract: the loop has filled a part of the row, from its front up to i.
-- Assumes nothing.
use Prim.Native.Nat.{◌*◌}
use Rattle.sixteen.specs.Engine.Lanes.{Front, anew}
use Rattle.colours.specs.Rows.{solid_byte}
use Rattle.colours.proofs.rows.fill_blocks.Given as goal

abbrev pub invariant-loop-k : goal.invariant-loop-k
invariant-loop-k l = Front l.out l.initial.out (anew (solid_byte l.fn.ground.c0 l.fn.ground.c1 l.fn.ground.c2)) (64 * l.k)
