-- Laws of `zero_from`, by which a loop that leaves at the first zero is proved: what is left from k
-- on gives the whole. Assumes nothing.
use mathlib.Core.Path.{◌≡◌, refl, sym, ap, ap₂, ◌∙◌}
use mathlib.Core.Logic.{⊎_elim}
use Prim.Native.Nat.{ℕ, zero, suc, ◌+◌, ◌-◌, ◌≤◌, ◌<◌}
use native.Mathlib.Omega.{arith}
use lib.Dec.{eqb}
use borrow.Author.Tests.{eqb-true, eqb-false, eq-eqb, ne_eqb}
use Rattle.lists.specs.Choice.{pick}
use Rattle.lists.specs.Zero.{zero_from}
use Rattle.lists.proofs.Choice.{same_or, pick-keeps}

-- ---- the loop over n indexes, at k: a zero, a turn that finds none, after it

pub zero-stops : (n : ℕ) (f : ℕ → ℕ) (k : ℕ) → k < n → f k ≡ 0 → zero_from (n - k) f k ≡ k
unfolding zero_from
zero-stops n f k h e = let q : n - k ≡ suc (n - (k + 1)) = omega arith in rw q (simp (eq-eqb (f k) 0 e))

pub zero-passes : (n : ℕ) (f : ℕ → ℕ) (k : ℕ) → k < n → (f k ≡ 0 → ⊥)
    → zero_from (n - k) f k ≡ zero_from (n - (k + 1)) f (k + 1)
unfolding zero_from
zero-passes n f k h e = let q : n - k ≡ suc (n - (k + 1)) = omega arith in rw q (simp (ne_eqb (f k) 0 e))

pub zero-ends : (n : ℕ) (f : ℕ → ℕ) (k : ℕ) → n ≤ k → zero_from (n - k) f k ≡ k
unfolding zero_from
zero-ends n f k h = let q : n - k ≡ 0 = omega arith in rw q refl

-- ---- its bounds

pub zero_from-le : (n : ℕ) (f : ℕ → ℕ) (k : ℕ) → zero_from n f k ≤ k + n
unfolding zero_from
zero_from-le zero f k = omega arith
zero_from-le (suc n) f k =
    pick-keeps (λ (m : ℕ). m ≤ k + suc n) (eqb (f k) 0) k (zero_from n f (k + 1)) (λ _. omega arith)
    (λ _. omega (arith, zero_from-le n f (k + 1)))

pub zero_from-ge : (n : ℕ) (f : ℕ → ℕ) (k : ℕ) → k ≤ zero_from n f k
unfolding zero_from
zero_from-ge zero f k = omega arith
zero_from-ge (suc n) f k =
    pick-keeps (λ (m : ℕ). k ≤ m) (eqb (f k) 0) k (zero_from n f (k + 1)) (λ _. omega arith)
    (λ _. omega (arith, zero_from-ge n f (k + 1)))

-- the same numbers
pub zero_from-cong : (n : ℕ) (f g : ℕ → ℕ) (k : ℕ) → ((i : ℕ) → f i ≡ g i) → zero_from n f k ≡ zero_from n g k
unfolding zero_from
zero_from-cong zero f g k h = refl
zero_from-cong (suc n) f g k h =
    ap₂ (λ (m z : ℕ). pick (eqb m 0) k z) (h k) (zero_from-cong n f g (k + 1) h)

-- it is a zero where there is one, and lies no farther than any other
pub zero_from-hits : (n : ℕ) (f : ℕ → ℕ) (k d : ℕ) → k ≤ d → d < k + n → f d ≡ 0
    → (f (zero_from n f k) ≡ 0) × (zero_from n f k ≤ d)
unfolding zero_from
zero_from-hits zero f k d lo hi e = absurd (omega arith)
zero_from-hits (suc n) f k d lo hi e =
    pick-keeps (λ (m : ℕ). (f m ≡ 0) × (m ≤ d)) (eqb (f k) 0) k (zero_from n f (k + 1)) (λ q. (eqb-true (f k) 0 q, lo))
    (λ q. ⊎_elim
    (λ (s : d ≡ k). absurd (eqb-false (f k) 0 q (sym (ap f s) ∙ e)))
    (λ (ne : d ≡ k → ⊥). zero_from-hits n f (k + 1) d (omega arith) (omega arith) e)
    (same_or d k))
