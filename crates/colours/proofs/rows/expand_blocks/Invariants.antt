-- `colours::rows::expand_blocks` meets its contract: the loop has written the pixels of the first j indexes. Assumes
-- nothing.
use Prim.Native.Nat.{◌*◌}
use Rattle.sixteen.specs.Engine.Lanes.{Front, anew}
use Rattle.colours.specs.Rows.{colour_byte}
use Rattle.colours.proofs.rows.expand_blocks.Given as goal

abbrev pub invariant-loop-k : goal.invariant-loop-k
invariant-loop-k l = Front l.row l.initial.row (anew (colour_byte l.line l.palette)) (4 * (16 * l.k))
