-- A number that is left over: k choices among k + 1 numbers leave one. Assumes nothing.
use mathlib.Core.Path.{◌≡◌, ap, ◌∙◌}
use mathlib.Core.Logic.{⊎_elim}
use Prim.Native.Nat.{ℕ, zero, suc, ◌-◌, ◌≤◌, ◌<◌}
use native.Mathlib.Omega.{arith}
use borrow.Author.Tests.{lt-ltb, le-ltb}
use lib.Dec.{ltb}
use Rattle.lists.specs.Choice.{pick}
use Rattle.lists.proofs.Choice.{same_or, split}

-- one of 0 .. k is none of f 0 .. f (k - 1)
abbrev pub Left : ℕ → (ℕ → ℕ) → Type 0
Left k f = (d : ℕ) × (d ≤ k) × ((m : ℕ) → m < k → f m ≡ d → ⊥)

-- the numbers above p one lower, so that p's own place is closed
abbrev closed : ℕ → ℕ → ℕ
closed p a = pick (ltb p a) (a - 1) a

-- the last choice's place is closed, one is left of the others, and the place is opened again
pub left_over : (k : ℕ) (f : ℕ → ℕ) → Left k f
left_over zero f = (0, omega arith, λ m h. absurd (omega arith))
left_over (suc k) f = opened (left_over k (λ m. closed (f k) (f m)))
  where
    above : (p a : ℕ) → p < a → closed p a ≡ a - 1
    above p a h = rw (lt-ltb p a h)

    at-most : (p a : ℕ) → a ≤ p → closed p a ≡ a
    at-most p a h = rw (le-ltb p a h)

    opened : Left k (λ m. closed (f k) (f m)) → Left (suc k) f
    opened l = ⊎_elim
        (λ (lt : l.0 < f k). (
          l.0,
          omega (arith, l.1),
          λ m h e. ⊎_elim
              (λ (q : m ≡ k). let r : f m ≡ f k = ap f q in omega arith)
              (λ (ne : m ≡ k → ⊥). l.2 m (omega arith) (at-most (f k) (f m) (omega arith) ∙ e))
              (same_or m k),
        ))
        (λ (ge : f k ≤ l.0). (
          suc l.0,
          omega (arith, l.1),
          λ m h e. ⊎_elim
              (λ (q : m ≡ k). let r : f m ≡ f k = ap f q in omega arith)
              (λ (ne : m ≡ k → ⊥). l.2 m (omega arith) (above (f k) (f m) (omega arith) ∙ omega arith))
              (same_or m k),
        ))
        (split l.0 (f k))
