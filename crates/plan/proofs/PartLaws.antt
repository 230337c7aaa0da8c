-- Parts of a list as the borrow checker writes them, from a place up to that place and so many more.
-- Assumes nothing.
use mathlib.Core.Path.{◌≡◌}
use mathlib.Core.List.{List, ◌++◌}
use Prim.Native.Nat.{ℕ, ◌+◌, ◌-◌, ◌≤◌}
use native.Mathlib.Omega.{arith}
use lib.ListN.{length, take, drop}
use lib.Seq.{take_at}
use Rattle.lists.proofs.Tab.{length_part}
use Rattle.plan.specs.Engine.Plan.{part_at}

pub part-is : (l : List ℕ) (at n : ℕ) → take (at + n - at) (drop at l) ≡ part_at l at n
part-is l at n = let q : at + n - at ≡ n = omega arith in rw q

pub length-lent : (l : List ℕ) (at n : ℕ) → at + n ≤ length l → length (take (at + n - at) (drop at l)) ≡ n
length-lent l at n h = rw part-is (length_part l at n h)

-- the front of a room, once it came back
pub length-take-append : (p q : List ℕ) (n : ℕ) → length p ≡ n → length (take n (p ++ q)) ≡ n
length-take-append p q n e = rw (take_at p q n e) e
