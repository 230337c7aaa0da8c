-- Tests, refusals and their order: when the first of several refusals gives a number.
-- Assumes nothing.
use mathlib.Core.Path.{◌≡◌, refl, sym, ◌∙◌}
use mathlib.Core.Bool.{Bool, true, false, false≢true}
use mathlib.Core.Logic.{◌↔◌, ◌⊎◌, inl, inr, ⊎_elim}
use Prim.Native.Nat.{ℕ, zero, suc, ◌≤◌, ◌<◌}
use native.Mathlib.Omega.{arith}
use borrow.Author.Tests.{eqb-true, eqb-false, ltb-true, ltb-false, leb-true, leb-false, ne_eqb}
use lib.Dec.{eqb, ltb, leb}
use Rattle.lists.specs.Choice.{pick, both, either, or_else}
use Rattle.lists.specs.Runs.{first_of}
use Rattle.lists.proofs.Choice.{same_or}
use Rattle.lists.proofs.First.{first-each, first-all, first_stops}

-- ---- tests and refusals

-- a test that holds exactly where P does
abbrev pub Says : Bool → Type 0 → Type 0
Says t P = (t ≡ true → P) × (t ≡ false → ¬ P)

pub says-itself : (t : Bool) → Says t (t ≡ true)
says-itself t = (λ e. e, λ f e. false≢true (sym f ∙ e))

pub eqb-says : (a b : ℕ) → Says (eqb a b) (a ≡ b)
eqb-says a b = (eqb-true a b, eqb-false a b)

pub ltb-says : (a b : ℕ) → Says (ltb a b) (a < b)
ltb-says a b = (ltb-true a b, λ e h. let k = ltb-false a b e in omega arith)

pub leb-says : (a b : ℕ) → Says (leb a b) (a ≤ b)
leb-says a b = (leb-true a b, λ e h. let k = leb-false a b e in omega arith)

pub both-says : {P Q : Type 0} (s t : Bool) → Says s P → Says t Q → Says (both s t) (P × Q)
both-says true t p q = (λ e. (p.0 refl, q.0 e), λ e pq. q.1 e pq.1)
both-says false t p q = (λ e. absurd (false≢true e), λ e pq. p.1 refl pq.0)

pub either-says : {P Q : Type 0} (s t : Bool) → Says s P → Says t Q → Says (either s t) (P ⊎ Q)
either-says true t p q = (λ e. inl (p.0 refl), λ e. absurd (false≢true (sym e)))
either-says false t p q = (λ e. inr (q.0 e), λ e. ⊎_elim (p.1 refl) (q.1 e))

-- a refusal: the number k where P holds, and else 0
pub data Tells (x k : ℕ) (P : Type 0) : Type 0 where
  given : x ≡ k → P → Tells x k P
  passed : x ≡ 0 → ¬ P → Tells x k P

pub refuses : {P : Type 0} (t : Bool) (k : ℕ) → Says t P → Tells (pick t k 0) k P
refuses true k s = given refl (s.0 refl)
refuses false k s = passed refl (s.1 refl)

pub refuses-but : {P : Type 0} (t : Bool) (k : ℕ) → Says t P → Tells (pick t 0 k) k (¬ P)
refuses-but true k s = passed refl (λ n. n (s.0 refl))
refuses-but false k s = given refl (s.1 refl)

pub tells_as : {P Q : Type 0} {x k : ℕ} → P ↔ Q → Tells x k P → Tells x k Q
tells_as f (given e p) = given e (f.0 p)
tells_as f (passed e n) = passed e (λ q. n (f.1 q))

-- ---- refusals in order

-- a number above 0
pub over_zero : {x k : ℕ} → eqb k 0 ≡ false → x ≡ k → ¬ (x ≡ 0)
over_zero nz e z = eqb-false _ 0 nz (sym e ∙ z)

-- x is not r, but where both are 0
abbrev pub Misses : ℕ → ℕ → Type 0
Misses x r = x ≡ r → x ≡ 0

-- a refusal gives its own number alone
pub other : {P : Type 0} {x k : ℕ} (r : ℕ) → eqb k r ≡ false → Tells x k P → Misses x r
other r ne (given e p) q = absurd (eqb-false _ _ ne (sym e ∙ q))
other r ne (passed e n) q = e

or-passed : (a b : ℕ) → a ≡ 0 → or_else a b ≡ b
or-passed a b z = rw z

or-given : (a b : ℕ) → ¬ (a ≡ 0) → or_else a b ≡ a
or-given a b ne = rw (ne_eqb a 0 ne)

-- of three the first two are taken together
pub or-or : (a b c : ℕ) → or_else a (or_else b c) ≡ or_else (or_else a b) c
or-or a b c = ⊎_elim
    (λ (z : a ≡ 0). rw z)
    (λ (ne : ¬ (a ≡ 0)). rw (ne_eqb a 0 ne, ne_eqb a 0 ne)) (same_or a 0)

pub misses-or : (a b r : ℕ) → Misses a r → Misses b r → Misses (or_else a b) r
misses-or a b r f g q = ⊎_elim
    (λ (z : a ≡ 0). or-passed a b z ∙ g (sym (or-passed a b z) ∙ q))
    (λ (ne : ¬ (a ≡ 0)). absurd (ne (f (sym (or-given a b ne) ∙ q)))) (same_or a 0)

-- the number of the first of two, and one of the second, for which the first has to pass
pub or-first : {P : Type 0} (a b r : ℕ) → eqb r 0 ≡ false → Misses b r → (a ≡ r) ↔ P → (or_else a b ≡ r) ↔ P
or-first a b r nz g f = (
  λ q. ⊎_elim
      (λ (z : a ≡ 0). let e : b ≡ r = sym (or-passed a b z) ∙ q in absurd (over_zero nz e (g e)))
      (λ (ne : ¬ (a ≡ 0)). f.0 (sym (or-given a b ne) ∙ q)) (same_or a 0),
  λ p. or-given a b (over_zero nz (f.1 p)) ∙ f.1 p,
)

pub or_later : {N Q : Type 0} (a b r : ℕ) → Misses a r → (a ≡ 0) ↔ N → (b ≡ r) ↔ Q → (or_else a b ≡ r) ↔ (N × Q)
or_later a b r m f g = (
  λ q. ⊎_elim
      (λ (z : a ≡ 0). (f.0 z, g.0 (sym (or-passed a b z) ∙ q)))
      (λ (ne : ¬ (a ≡ 0)). absurd (ne (m (sym (or-given a b ne) ∙ q)))) (same_or a 0),
  λ p. or-passed a b (f.1 p.0) ∙ g.1 p.1,
)

module _ {P : Type 0} {x k : ℕ} (nz : eqb k 0 ≡ false) where
  pub given-when : Tells x k P → (x ≡ k) ↔ P
  given-when (given e p) = (λ q. p, λ p. e)
  given-when (passed e n) = (λ q. absurd (over_zero nz q e), λ p. absurd (n p))

  pub passed-when : Tells x k P → (x ≡ 0) ↔ (¬ P)
  passed-when (given e p) = (λ z. absurd (over_zero nz e z), λ n. absurd (n p))
  passed-when (passed e n) = (λ z. n, λ n. e)

  -- the refusal's own number, where nothing after it gives that; and a number of what comes after it
  pub own : (b : ℕ) → Tells x k P → Misses b k → (or_else x b ≡ k) ↔ P
  own b t m = or-first x b k nz m (given-when t)

  pub past : {Q : Type 0} (b r : ℕ) → eqb k r ≡ false → Tells x k P → (b ≡ r) ↔ Q → (or_else x b ≡ r) ↔ ((¬ P) × Q)
  past b r ne t f = or_later x b r (other r ne t) (passed-when t) f

-- ---- refusals of words, or of layers, one after another

pub tells-or : {P Q : Type 0} {k : ℕ} (a b : ℕ) → eqb k 0 ≡ false → Tells a k P → Tells b k Q → Tells (or_else a b) k (P ⊎ Q)
tells-or a b nz (given e p) t = given (or-given a b (over_zero nz e) ∙ e) (inl p)
tells-or a b nz (passed z n) (given e q) = given (or-passed a b z ∙ e) (inr q)
tells-or a b nz (passed z n) (passed e m) = passed (or-passed a b z ∙ e) (⊎_elim n m)

-- of one number: any of them
pub tells_first : {P : ℕ → Type 0} (n k : ℕ) (f : ℕ → ℕ) → eqb k 0 ≡ false → ((i : ℕ) → Tells (f i) k (P i))
    → Tells (first_of n f) k ((i : ℕ) × (i < n) × P i)
unfolding first_of
tells_first zero k f nz t = passed refl (λ q. let h = q.1 in omega arith)
tells_first (suc n) k f nz t = tells_as (
  ⊎_elim (λ q. (q.0, omega (arith, q.1), q.2)) (λ p. (n, omega arith, p)),
  λ q. ⊎_elim (λ e. inr (rw e at q.2)) (λ ne. inl (q.0, omega (arith, q.1), q.2)) (same_or q.0 n),
) (tells-or (first_of n f) (f n) nz (tells_first n k f nz t) (t n))

pub misses-first : (n r : ℕ) (f : ℕ → ℕ) → ((i : ℕ) → Misses (f i) r) → Misses (first_of n f) r
unfolding first_of
misses-first zero r f h = λ q. refl
misses-first (suc n) r f h = misses-or (first_of n f) (f n) r (misses-first n r f h) (h n)

-- of several: the first that does not pass
module _ (f : ℕ → ℕ) {N : ℕ → Type 0} (pass : (i : ℕ) → (f i ≡ 0) ↔ N i) where
  pub first-passed : (n : ℕ) → (first_of n f ≡ 0) ↔ ((i : ℕ) → i < n → N i)
  first-passed n = (λ z i h. (pass i).0 (first-each n f z i h), λ g. first-all n f (λ i h. (pass i).1 (g i h)))

  module _ {P : ℕ → Type 0} (r : ℕ) (nz : eqb r 0 ≡ false) (give : (i : ℕ) → (f i ≡ r) ↔ P i) where
    first-at : (n : ℕ) → first_of n f ≡ r → (i : ℕ) × (i < n) × P i × ((m : ℕ) → m < i → N m)
    unfolding first_of
    first-at zero q = absurd (over_zero nz q refl)
    first-at (suc n) q = ⊎_elim
        (λ (z : first_of n f ≡ 0).
        (n, omega arith, (give n).0 (sym (or-passed (first_of n f) (f n) z) ∙ q), (first-passed n).0 z))
        (λ (ne : ¬ (first_of n f ≡ 0)).
        let p = first-at n (sym (or-given (first_of n f) (f n) ne) ∙ q) in (p.0, omega (arith, p.1), p.2, p.3))
        (same_or (first_of n f) 0)

    pub first-given : (n : ℕ) → (first_of n f ≡ r) ↔ ((i : ℕ) × (i < n) × P i × ((m : ℕ) → m < i → N m))
    first-given n = (
      first-at n,
      λ p. sym (first_stops f p.0 n r p.1 ((first-passed p.0).1 p.3) (sym ((give p.0).1 p.2))
          (eqb-false r 0 nz)),
    )
