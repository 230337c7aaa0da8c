-- A row of a list that came back with a rule of its own, where each row has S elements: row y begins at y * S, and
-- element i stands on row i / S. Assumes nothing.
use mathlib.Core.Path.{◌≡◌}
use mathlib.Core.List.{List, ◌++◌}
use Prim.Native.Nat.{ℕ, ◌+◌, ◌*◌, ◌/◌, ◌≤◌, ◌<◌}
use native.Mathlib.Nat.{add-mul, one-mul, div-lt_iff_lt-mul, le-div_iff_mul-le}
use native.Mathlib.Omega.{arith}
use borrow.Author.Tests.{eq-eqb, ne_eqb}
use lib.Arith.{digits_div}
use lib.Dec.{eqb}
use lib.ListN.{length, take, drop}
use Rattle.lists.specs.Choice.{pick}
use Rattle.lists.specs.Tab.{each}
use Rattle.lists.proofs.Tab.{each_part}

module _ (S : ℕ) (f : ℕ → ℕ → ℕ) where
  -- the rule f on row y alone
  unfoldable pub on_row : ℕ → ℕ → ℕ → ℕ
  on_row y i p = pick (eqb (i / S) y) (f i p) p

  pub on_row-here : (y i p : ℕ) → i / S ≡ y → on_row y i p ≡ f i p
  unfolding on_row
  on_row-here y i p e = rw (eq-eqb _ _ e)

  pub on_row-other : (y i p : ℕ) → (i / S ≡ y → ⊥) → on_row y i p ≡ p
  unfolding on_row
  on_row-other y i p ne = rw (ne_eqb _ _ ne)

  pub row-part : (y : ℕ) (l part : List ℕ) (g : ℕ → ℕ → ℕ) → 0 < S → y * S + S ≤ length l
      → part ≡ each g (take S (drop (y * S) l)) → ((i p : ℕ) → i < S → f (y * S + i) p ≡ g i p)
      → take (y * S) l ++ (part ++ drop S (drop (y * S) l)) ≡ each (on_row y) l
  unfolding on_row
  row-part y l part g some fits e same =
      each_part (on_row y) g l part (y * S) S fits e
      (λ i p h. rw (eq-eqb _ _ (digits_div y {m = S} {r = i} h)) (same i p h))
      (λ i p lt. on_row-other y i p
      (λ (z : i / S ≡ y). let k : i / S < y = (div-lt_iff_lt-mul {k = S} some).1 lt in omega arith))
      (λ i p ge _. on_row-other y i p (λ (z : i / S ≡ y).
      let k : y + 1 ≤ i / S = (le-div_iff_mul-le {k = S} some).1 (omega (arith, add-mul y 1 S, one-mul S)) in
      omega arith))
