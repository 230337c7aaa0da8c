-- Laws of `run`: steps in a row. Assumes nothing.
use mathlib.Core.Path.{◌≡◌, refl, sym, ap, ap₂, ◌∙◌}
use mathlib.Core.Logic.{⊎_elim}
use Prim.Native.Nat.{ℕ, zero, suc, ◌+◌, ◌-◌, ◌≤◌, ◌<◌}
use native.Mathlib.Numerals.{add-one}
use native.Mathlib.Omega.{arith}
use Rattle.lists.specs.Runs.{run}
use Rattle.lists.proofs.Choice.{same_or}

-- the steps that a run from a of k takes
abbrev pub Within : ℕ → ℕ → ℕ → Type 0
Within a k d = (a ≤ d) × (d < a + k)

pub run_none : (a : ℕ) (f : ℕ → ℕ → ℕ) (p : ℕ) → run a 0 f p ≡ p
unfolding run
run_none a f p = refl

-- what every step keeps
pub run-keeps : (P : ℕ → Type 0) (a k : ℕ) (f : ℕ → ℕ → ℕ) (p : ℕ) → ((d q : ℕ) → Within a k d → P q → P (f d q)) → P p
    → P (run a k f p)
unfolding run
run-keeps P a zero f p h b = b
run-keeps P a (suc k) f p h b = h (a + k) _ (omega arith) (run-keeps P a k f p (λ d q w. h d q (omega arith)) b)

-- steps that do nothing
pub run-id : (a k : ℕ) (f : ℕ → ℕ → ℕ) (p : ℕ) → ((d q : ℕ) → Within a k d → f d q ≡ q) → run a k f p ≡ p
run-id a k f p h = run-keeps (λ (z : ℕ). z ≡ p) a k f p (λ d q w e. h d q w ∙ e) refl

-- the same steps
pub run-cong : {A : Type 0} (a k : ℕ) (f g : ℕ → A → A) (p : A) → ((d : ℕ) (q : A) → Within a k d → f d q ≡ g d q)
    → run a k f p ≡ run a k g p
unfolding run
run-cong a zero f g p h = refl
run-cong a (suc k) f g p h =
    h (a + k) _ (omega arith) ∙ ap (g (a + k)) (run-cong a k f g p (λ d q w. h d q (omega arith)))

-- first j steps and then k
pub run-split : (a j k : ℕ) (f : ℕ → ℕ → ℕ) (p : ℕ) → run (a + j) k f (run a j f p) ≡ run a (j + k) f p
unfolding run
run-split a j zero f p = let q : j + 0 ≡ j = omega arith in rw q
run-split a j (suc k) f p =
    let q : j + suc k ≡ suc (j + k) = omega arith in
    let r : a + (j + k) ≡ a + j + k = omega arith in
    rw (q, r) (ap (f (a + j + k)) (run-split a j k f p))

-- of n steps only those from a up to b do anything
pub run-part : (n a b : ℕ) (f g : ℕ → ℕ → ℕ) (p : ℕ) → a ≤ b → b ≤ n
    → ((d q : ℕ) → d < a → f d q ≡ q) → ((d q : ℕ) → b ≤ d → f d q ≡ q) → ((d q : ℕ) → a ≤ d → d < b → f d q ≡ g d q)
    → run 0 n f p ≡ run a (b - a) g p
run-part n a b f g p ab bn low high mid =
    let q : n ≡ a + (b - a + (n - b)) = omega arith in
    let r : 0 + a ≡ a = omega arith in
    ap (λ (m : ℕ). run 0 m f p) q
    ∙ sym (run-split 0 a (b - a + (n - b)) f p)
    ∙ ap₂ (λ (x y : ℕ). run x (b - a + (n - b)) f y) r (run-id 0 a f p (λ d q w. low d q (omega arith)))
    ∙ sym (run-split a (b - a) (n - b) f p)
    ∙ run-id (a + (b - a)) (n - b) f _ (λ d q w. high d q (omega arith))
    ∙ run-cong a (b - a) f g p (λ d q w. mid d q (omega arith) (omega arith))

-- ---- one step among the others

-- after step n nothing is seen of what was before it
pub run-forgets : (a k n : ℕ) (f g : ℕ → ℕ → ℕ) (p p' : ℕ) → Within a k n → ((q q' : ℕ) → f n q ≡ g n q')
    → ((d q : ℕ) → n < d → d < a + k → f d q ≡ g d q) → run a k f p ≡ run a k g p'
unfolding run
run-forgets a zero n f g p p' w c h = omega arith
run-forgets a (suc k) n f g p p' w c h = ⊎_elim
    (λ (e : n ≡ a + k). rw (← e) (c _ _))
    (λ (ne : n ≡ a + k → ⊥). h (a + k) _ (omega arith) (omega arith)
    ∙ ap (g (a + k)) (run-forgets a k n f g p p' (omega arith) c (λ d q lo hi. h d q lo (omega arith))))
    (same_or n (a + k))

-- past step n nothing is done
pub run-rest : (a k n : ℕ) (f : ℕ → ℕ → ℕ) (p : ℕ) → Within a k n → ((d q : ℕ) → n < d → d < a + k → f d q ≡ q)
    → run a k f p ≡ f n (run a (n - a) f p)
unfolding run
run-rest a zero n f p w h = omega arith
run-rest a (suc k) n f p w h = ⊎_elim
    (λ (e : n ≡ a + k). let q : n - a ≡ k = omega arith in rw (q, e))
    (λ (ne : n ≡ a + k → ⊥). h (a + k) _ (omega arith) (omega arith)
    ∙ run-rest a k n f p (omega arith) (λ d q lo hi. h d q lo (omega arith)))
    (same_or n (a + k))

-- only step n does anything
pub run_only : (a k n : ℕ) (f : ℕ → ℕ → ℕ) (p : ℕ) → Within a k n → ((d q : ℕ) → Within a k d → (d ≡ n → ⊥) → f d q ≡ q)
    → run a k f p ≡ f n p
run_only a k n f p w h =
    run-rest a k n f p w (λ d q lo hi. h d q (omega arith) (omega arith))
    ∙ ap (f n) (run-id a (n - a) f p (λ d q v. h d q (omega arith) (omega arith)))

-- what step n makes so and every step keeps
pub run-after : (P : ℕ → Type 0) (a k n : ℕ) (f : ℕ → ℕ → ℕ) (p : ℕ) → Within a k n → ((q : ℕ) → P (f n q))
    → ((d q : ℕ) → Within a k d → P q → P (f d q)) → P (run a k f p)
unfolding run
run-after P a zero n f p w c h = absurd (omega arith)
run-after P a (suc k) n f p w c h = ⊎_elim
    (λ (e : n ≡ a + k). rw (← e) (c _))
    (λ (ne : n ≡ a + k → ⊥). h (a + k) _ (omega arith)
    (run-after P a k n f p (omega arith) c (λ d q v. h d q (omega arith))))
    (same_or n (a + k))

-- steps i and j change places where either order does the same and nothing is done between them
pub run-swap : (a k i j : ℕ) (f g : ℕ → ℕ → ℕ) (p : ℕ) → a ≤ i → i < j → j < a + k
    → ((d q : ℕ) → Within a k d → (d ≡ i → ⊥) → (d ≡ j → ⊥) → f d q ≡ g d q)
    → ((d q : ℕ) → i < d → d < j → f d q ≡ q)
    → ((q : ℕ) → f j (f i q) ≡ g j (g i q)) → run a k f p ≡ run a k g p
unfolding run
run-swap a zero i j f g p lo m hi o b s = omega arith
run-swap a (suc k) i j f g p lo m hi o b s = ⊎_elim
    (λ (e : j ≡ a + k). rw (← e)
    (ap (f j) (run-rest a k i f p (omega arith) (λ d q l r. b d q l (omega arith)))
    ∙ s (run a (i - a) f p)
    ∙ ap (λ (z : ℕ). g j (g i z)) (run-cong a (i - a) f g p (λ d q w. o d q (omega arith) (omega arith) (omega arith)))
    ∙ sym (ap (g j)
    (run-rest a k i g p (omega arith) (λ d q l r. sym (o d q (omega arith) (omega arith) (omega arith))
    ∙ b d q l (omega arith))))))
    (λ (ne : j ≡ a + k → ⊥). o (a + k) _ (omega arith) (omega arith) (omega arith)
    ∙ ap (g (a + k)) (run-swap a k i j f g p lo m (omega arith) (λ d q w. o d q (omega arith)) b s))
    (same_or j (a + k))

-- ---- steps 0 to k - 1 of anything

-- what a turn hands on to the next
pub run-hands : {A : Type 0} (P : ℕ → A → Type 0) (k : ℕ) (f : ℕ → A → A) (p : A) → P 0 p
    → ((n : ℕ) (q : A) → n < k → P n q → P (suc n) (f n q)) → P k (run 0 k f p)
unfolding run
run-hands P zero f p z s = z
run-hands P (suc k) f p z s =
    let q : 0 + k ≡ k = omega arith in
    rw q (s k (run 0 k f p) (omega arith) (run-hands P k f p z (λ n v lt. s n v (omega arith))))

-- turns that leave it as it is
pub run-still : {A : Type 0} (k : ℕ) (f : ℕ → A → A) (p : A) → ((n : ℕ) → n < k → f n p ≡ p) → run 0 k f p ≡ p
run-still k f p h = run-hands (λ n q. q ≡ p) k f p refl (λ n q lt e. ap (f n) e ∙ h n lt)

-- the loop: before it, a turn, after it
pub turns-none : {A : Type 0} (f : ℕ → A → A) (p : A) → p ≡ run 0 0 f p
unfolding run
turns-none f p = refl

pub turns_next : {A : Type 0} (f : ℕ → A → A) (p : A) (n : ℕ) {v u : A} → v ≡ run 0 n f p → u ≡ f n v
    → u ≡ run 0 (n + 1) f p
unfolding run
turns_next f p n e q =
    let z : 0 + n ≡ n = omega arith in
    rw (add-one, z) (q ∙ ap (f n) e)

pub turns-all : {A : Type 0} (f : ℕ → A → A) (p : A) (k n : ℕ) {v : A} → n ≤ k → k ≤ n → v ≡ run 0 n f p
    → v ≡ run 0 k f p
turns-all f p k n lo hi e = let h : k ≡ n = omega arith in rw h e

-- a step goes past the turns that it may trade places with, one by one; I holds of all that come
module _ {A : Type 0} (I : A → Type 0) (k : ℕ) (g : ℕ → A → A) (keeps : (n : ℕ) (v : A) → n < k → I v → I (g n v)) where
  run-kept : (j : ℕ) → j ≤ k → (p : A) → I p → I (run 0 j g p)
  run-kept j h p i = run-hands (λ n. I) j g p i (λ n v lt. keeps n v (omega arith))

  run_past : (F : A → A) → ((m : ℕ) (v : A) → m < k → I v → F (g m v) ≡ g m (F v)) → (j : ℕ) → j ≤ k → (p : A) → I p
      → F (run 0 j g p) ≡ run 0 j g (F p)
  unfolding run
  run_past F trade zero h p i = refl
  run_past F trade (suc j) h p i =
      let z : 0 + j ≡ j = omega arith in
      rw z (trade j (run 0 j g p) (omega arith) (run-kept j (omega arith) p i)
      ∙ ap (g j) (run_past F trade j (omega arith) p i))

  pub trade-step : (F : A → A) → ((m : ℕ) (v : A) → m < k → I v → F (g m v) ≡ g m (F v)) → (p : A) → I p
      → F (run 0 k g p) ≡ run 0 k g (F p)
  trade-step F trade = run_past F trade k (omega arith)

-- and so do turns
pub trade-turns : {A : Type 0} (I : A → Type 0) (k : ℕ) (f g : ℕ → A → A)
    → ((n : ℕ) (v : A) → n < k → I v → I (f n v)) → ((n : ℕ) (v : A) → n < k → I v → I (g n v))
    → ((n m : ℕ) (v : A) → n < k → m < k → I v → f n (g m v) ≡ g m (f n v)) → (p : A) → I p
    → run 0 k f (run 0 k g p) ≡ run 0 k g (run 0 k f p)
trade-turns I k f g keeps-f keeps-g trade =
    trade-step I k g keeps-g (run 0 k f)
    (λ m v hm i. sym (trade-step I k f keeps-f (g m) (λ n u hn j. sym (trade n m u hn hm j)) v i))
