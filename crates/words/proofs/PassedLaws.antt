-- A loop that leaves at the first refusal: what is so before each turn, and what a turn and the end make
-- of it. Assumes nothing.
use mathlib.Core.Path.{◌≡◌}
use Prim.Native.Nat.{ℕ, ◌+◌, ◌≤◌, ◌<◌}
use native.Mathlib.Omega.{arith}
use Rattle.lists.specs.Runs.{first_of}
use Rattle.lists.proofs.First.{first-none, first_passes, first_stops, first_ends}

-- of f 0 to f (n - 1) those before i have been asked, and none refuses
pub record Passed (n : ℕ) (f : ℕ → ℕ) (i : ℕ) : Type 0 where
  pub room : i ≤ n
  pub none : first_of i f ≡ 0

-- before the first turn
pub passed_none : (n : ℕ) (f : ℕ → ℕ) → Passed n f 0
passed_none n f = record { room = omega arith; none = first-none f }

-- after the last one
pub passed-all : (n : ℕ) (f : ℕ → ℕ) (i : ℕ) → Passed n f i → n ≤ i → 0 ≡ first_of n f
passed-all n f i p h = first_ends f i n p.room h p.none

-- a turn that asks f i and is answered r: none so far, or the first
module _ (n : ℕ) (f : ℕ → ℕ) (i r : ℕ) (p : Passed n f i) (h : i < n) (e : r ≡ f i) where
  pub passed-more : r ≡ 0 → Passed n f (i + 1)
  passed-more z = record { room = omega arith; none = first_passes f i r p.none e z }

  pub passed-stops : (r ≡ 0 → ⊥) → r ≡ first_of n f
  passed-stops ne = first_stops f i n r h p.none e ne
