-- `colours::rows::expand_rest` meets its contract: the loop has written the pixels of the indexes from `from` up to j.
-- Assumes nothing.
use Prim.Native.Nat.{◌*◌}
use Rattle.sixteen.specs.Engine.Lanes.{Reach, anew}
use Rattle.colours.specs.Rows.{colour_byte}
use Rattle.colours.proofs.rows.expand_rest.Given as goal

abbrev pub invariant-loop-j : goal.invariant-loop-j
invariant-loop-j l = Reach l.row l.initial.row (anew (colour_byte l.line l.palette)) (4 * l.from) (4 * l.j)
