-- Laws of `first_of`, by which a loop that leaves at the first refusal is proved. Assumes nothing.
use mathlib.Core.Path.{◌≡◌, refl, sym, ap₂, ◌∙◌}
use mathlib.Core.Logic.{⊎_elim}
use Prim.Native.Nat.{ℕ, zero, suc, ◌+◌, ◌<◌, ◌≤◌}
use native.Mathlib.Decide.{le_ind}
use native.Mathlib.Numerals.{add-one}
use native.Mathlib.Omega.{arith}
use borrow.Author.Tests.{ne_eqb}
use Rattle.lists.specs.Choice.{or_else}
use Rattle.lists.specs.Runs.{first_of}
use Rattle.lists.proofs.Choice.{same_or, or_else-left, or_else-right, or_else-none}

-- ---- the loop: before it, a turn that finds nothing, a turn that finds a refusal, after it

pub first-none : (f : ℕ → ℕ) → first_of 0 f ≡ 0
unfolding first_of
first-none f = refl

pub first_passes : (f : ℕ → ℕ) (i a : ℕ) → first_of i f ≡ 0 → a ≡ f i → a ≡ 0 → first_of (i + 1) f ≡ 0
unfolding first_of
first_passes f i a e q z = rw add-one (rw e (sym q ∙ z))

pub first_stops : (f : ℕ → ℕ) (i n a : ℕ) → i < n → first_of i f ≡ 0 → a ≡ f i → (a ≡ 0 → ⊥) → a ≡ first_of n f
unfolding first_of
first_stops f i n a h e q ne =
    le_ind (λ (m : ℕ). a ≡ first_of m f) (rw e q) (λ m k r. rw (← r) (simp (ne_eqb a 0 ne))) n h

pub first_ends : (f : ℕ → ℕ) (i n : ℕ) → i ≤ n → n ≤ i → first_of i f ≡ 0 → 0 ≡ first_of n f
first_ends f i n p q e = let h : n ≡ i = omega arith in rw h (sym e)

-- ---- no refusal at all

pub first-each : (n : ℕ) (f : ℕ → ℕ) → first_of n f ≡ 0 → (i : ℕ) → i < n → f i ≡ 0
unfolding first_of
first-each zero f e i h = omega arith
first-each (suc n) f e i h = ⊎_elim
    (λ (q : i ≡ n). rw q (or_else-right (first_of n f) (f n) e))
    (λ (ne : i ≡ n → ⊥). first-each n f (or_else-left (first_of n f) (f n) e) i (omega arith))
    (same_or i n)

pub first-all : (n : ℕ) (f : ℕ → ℕ) → ((i : ℕ) → i < n → f i ≡ 0) → first_of n f ≡ 0
unfolding first_of
first-all zero f h = refl
first-all (suc n) f h = or_else-none (first_of n f) (f n) (first-all n f (λ i lt. h i (omega arith))) (h n (omega arith))

-- the same numbers
pub first_cong : (n : ℕ) (f g : ℕ → ℕ) → ((i : ℕ) → i < n → f i ≡ g i) → first_of n f ≡ first_of n g
unfolding first_of
first_cong zero f g h = refl
first_cong (suc n) f g h = ap₂ or_else (first_cong n f g (λ i lt. h i (omega arith))) (h n (omega arith))

-- where not all pass, one does not
pub first_some : (n : ℕ) (f : ℕ → ℕ) → (first_of n f ≡ 0 → ⊥) → (i : ℕ) × (i < n) × (f i ≡ 0 → ⊥)
unfolding first_of
first_some zero f ne = absurd (ne refl)
first_some (suc n) f ne = ⊎_elim
    (λ (z : first_of n f ≡ 0). (n, omega arith, λ e. ne (rw z e)))
    (λ (s : first_of n f ≡ 0 → ⊥). let r = first_some n f s in (r.0, omega (arith, r.1), r.2))
    (same_or (first_of n f) 0)
