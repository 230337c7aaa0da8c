-- `colours::rows::fill_rest` meets its contract: the loop has filled a part of the row, from `from` up to i. Assumes
-- nothing.
use Prim.Native.Nat.{◌*◌}
use Rattle.sixteen.specs.Engine.Lanes.{Reach, anew}
use Rattle.colours.specs.Rows.{solid_byte}
use Rattle.colours.proofs.rows.fill_rest.Given as goal

abbrev pub invariant-loop-k : goal.invariant-loop-k
invariant-loop-k l = Reach l.out l.initial.out (anew (solid_byte l.ground.c0 l.ground.c1 l.ground.c2)) l.from (4 * l.k)
