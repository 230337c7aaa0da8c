-- `repair::depths::free` meets its contract: the invariant is that what is left from d on gives the whole.
-- Assumes nothing.
use mathlib.Core.Path.{◌≡◌}
use Prim.Native.Nat.{◌-◌}
use Rattle.lists.specs.Zero.{zero_from}
use Rattle.repair.specs.Steps.{taken_at, free_of}
use Rattle.repair.proofs.depths.free.Given as goal

abbrev pub invariant-loop-d : goal.invariant-loop-d
invariant-loop-d l = zero_from (8 - l.d) (taken_at l.old l.w) l.d ≡ free_of l.old l.w
