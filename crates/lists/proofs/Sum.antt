-- Laws of `sum_of`. Assumes nothing.
use mathlib.Core.Path.{◌≡◌, refl, sym, ap, ap₂, ◌∙◌}
use mathlib.Core.Logic.{⊎_elim}
use Prim.Native.Nat.{ℕ, zero, suc, ◌+◌, ◌*◌, ◌≤◌, ◌<◌}
use native.Mathlib.Nat.{suc-mul}
use native.Mathlib.Decide.{le_ind}
use native.Mathlib.Omega.{arith}
use Rattle.lists.specs.Runs.{sum_of}
use Rattle.lists.proofs.Choice.{same_or}

pub sum-none : (f : ℕ → ℕ) → sum_of 0 f ≡ 0
unfolding sum_of
sum-none f = refl

pub sum_step : (k : ℕ) (f : ℕ → ℕ) → sum_of (k + 1) f ≡ sum_of k f + f k
unfolding sum_of
sum_step k f = let q : k + 1 ≡ suc k = omega arith in rw q

pub sum-cong : (k : ℕ) (f g : ℕ → ℕ) → ((i : ℕ) → i < k → f i ≡ g i) → sum_of k f ≡ sum_of k g
unfolding sum_of
sum-cong zero f g h = refl
sum-cong (suc k) f g h = ap₂ (λ (x y : ℕ). x + y) (sum-cong k f g (λ i lt. h i (omega arith))) (h k (omega arith))

-- of summands that are at most m each
pub sum-le : (k m : ℕ) (f : ℕ → ℕ) → ((i : ℕ) → i < k → f i ≤ m) → sum_of k f ≤ k * m
unfolding sum_of
sum-le zero m f h = omega arith
sum-le (suc k) m f h =
    let r : sum_of k f ≤ k * m = sum-le k m f (λ i lt. h i (omega arith)) in
    let s : f k ≤ m = h k (omega arith) in
    let t : suc k * m ≡ k * m + m = suc-mul k m in omega arith

pub sum_mono : (j k : ℕ) (f : ℕ → ℕ) → j ≤ k → sum_of j f ≤ sum_of k f
unfolding sum_of
sum_mono j k f h = le_ind (λ (m : ℕ). sum_of j f ≤ sum_of m f) (omega arith) (λ m _ r. omega arith) k h

-- a summand ends where the next begins, or before
pub sum_room : (k i : ℕ) (f : ℕ → ℕ) → i < k → sum_of i f + f i ≤ sum_of k f
sum_room k i f h = omega (arith, sum_mono (i + 1) k f (omega arith), sum_step i f)

-- one summand taken out
pub sum-without : (k n : ℕ) (f g : ℕ → ℕ) → n < k → g n ≡ 0 → ((i : ℕ) → i < k → (i ≡ n → ⊥) → g i ≡ f i)
    → sum_of k g + f n ≡ sum_of k f
unfolding sum_of
sum-without zero n f g h z o = omega arith
sum-without (suc k) n f g h z o = ⊎_elim
    (λ (e : n ≡ k).
    let r : sum_of k g ≡ sum_of k f = sum-cong k g f (λ i lt. o i (omega arith) (omega arith)) in
    let s : g k ≡ 0 = rw e at z in
    let t : f n ≡ f k = ap f e in omega arith)
    (λ (ne : n ≡ k → ⊥).
    let r : sum_of k g + f n ≡ sum_of k f = sum-without k n f g (omega arith) z (λ i lt. o i (omega arith)) in
    let s : g k ≡ f k = o k (omega arith) (omega arith) in omega arith)
    (same_or n k)

-- a sum of sums
pub sum-add : (k : ℕ) (f g : ℕ → ℕ) → sum_of k (λ i. f i + g i) ≡ sum_of k f + sum_of k g
unfolding sum_of
sum-add zero f g = refl
sum-add (suc k) f g = let r : sum_of k (λ i. f i + g i) ≡ sum_of k f + sum_of k g = sum-add k f g in omega arith

pub sum-zero : (k : ℕ) → sum_of k (λ i. 0) ≡ 0
unfolding sum_of
sum-zero zero = refl
sum-zero (suc k) = let r : sum_of k (λ i. 0) ≡ 0 = sum-zero k in omega arith

-- two sums in either order
pub sum-swap : (j k : ℕ) (f : ℕ → ℕ → ℕ) → sum_of j (λ a. sum_of k (f a)) ≡ sum_of k (λ b. sum_of j (λ a. f a b))
unfolding sum_of
sum-swap zero k f = sym (sum-zero k)
sum-swap (suc j) k f =
    ap (λ (z : ℕ). z + sum_of k (f j)) (sum-swap j k f) ∙ sym (sum-add k (λ b. sum_of j (λ a. f a b)) (f j))
