-- `river::put_fours` meets its contract: the row begins with the bytes of the floats of the first k fours. Assumes
-- nothing.
use Prim.Native.Nat.{◌*◌}
use Rattle.river.specs.Engine.Steps.{Front}
use Rattle.river.proofs.put_fours.Given as goal

abbrev pub invariant-loop-k : goal.invariant-loop-k
invariant-loop-k l = Front l.floats l.row (16 * l.k)
