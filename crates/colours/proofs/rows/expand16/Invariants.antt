-- `colours::rows::expand16` meets its contract: the loop has written the pixels of the first 4 k indexes, and a turn
-- writes four more. Assumes nothing.
use Prim.Native.Nat.{◌+◌, ◌*◌}
use Rattle.sixteen.specs.Engine.Lanes.{Part, anew}
use Rattle.colours.specs.Rows.{colour_byte}
use Rattle.colours.proofs.rows.expand16.Given as goal

abbrev pub invariant-loop-k : goal.invariant-loop-k
invariant-loop-k l = Part l.row l.initial.row (anew (colour_byte l.line l.palette)) (4 * l.from) (4 * (l.from + 4 * l.k))
