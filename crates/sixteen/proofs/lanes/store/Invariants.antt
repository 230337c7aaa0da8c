-- `sixteen::lanes::store` meets its contract: the loop has stored the bytes of the first k words, a part of `out` from
-- `at` on. Assumes nothing.
use Prim.Native.Nat.{◌+◌, ◌*◌}
use Rattle.sixteen.specs.Engine.Lanes.{Part, anew, store_byte}
use Rattle.sixteen.proofs.lanes.store.Given as goal

abbrev pub invariant-loop-k : goal.invariant-loop-k
invariant-loop-k l = Part l.out l.initial.out (anew (store_byte l.w l.at)) l.at (l.at + 2 * l.k)
