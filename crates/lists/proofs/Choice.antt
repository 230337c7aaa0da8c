-- Laws of choices, cases on numbers, and two that equal a third. Assumes nothing.
use mathlib.Core.Path.{◌≡◌, refl, sym, ap, ◌∙◌}
use mathlib.Core.Bool.{Bool, true, false, false≢true}
use mathlib.Core.Logic.{◌⊎◌, inl, inr, ⊎_elim}
use Prim.Native.Nat.{ℕ, zero, suc, ◌%◌, ◌≤◌, ◌<◌, zero-le, suc-le-suc}
use native.Mathlib.Decide.{ℕ_discrete}
use native.Mathlib.Omega.{arith}
use borrow.Author.Tests.{ne_eqb}
use Rattle.lists.specs.Choice.{pick, choose, both, either, or_else}

-- two that equal a third: by this an equation admits one outcome
pub meet : {A : Type 0} {x y z : A} → x ≡ z → y ≡ z → x ≡ y
meet p q = p ∙ sym q

-- two numbers: the one is below the other or not; they are the same or not
pub split : (i k : ℕ) → (i < k) ⊎ (k ≤ i)
split i zero = inr zero-le
split zero (suc k) = inl (suc-le-suc zero-le)
split (suc i) (suc k) = ⊎_elim (λ h. inl (suc-le-suc h)) (λ h. inr (suc-le-suc h)) (split i k)

pub same_or : (i k : ℕ) → (i ≡ k) ⊎ (i ≡ k → ⊥)
same_or i k = elim (ℕ_discrete i k) [ yes e ↦ inl e | no n ↦ inr n ]

-- a number is even or odd
pub parity : (n : ℕ) → (n % 2 ≡ 0) ⊎ (n % 2 ≡ 1)
parity n = ⊎_elim (λ (h : n % 2 < 1). inl (omega arith)) (λ (h : 1 ≤ n % 2). inr (omega arith)) (split (n % 2) 1)

-- two choices by one test are the same where the chosen are
pub pick-cong : (t : Bool) {x x' y y' : ℕ} → (t ≡ true → x ≡ x') → (t ≡ false → y ≡ y') → pick t x y ≡ pick t x' y'
pick-cong true f g = f refl
pick-cong false f g = g refl

pub choose-cong : {A : Type 0} (t : Bool) {x x' y y' : A} → (t ≡ true → x ≡ x') → (t ≡ false → y ≡ y')
    → choose t x y ≡ choose t x' y'
choose-cong true f g = f refl
choose-cong false f g = g refl

-- what holds of both is so of the chosen
pub pick-keeps : (P : ℕ → Type 0) (t : Bool) (x y : ℕ) → (t ≡ true → P x) → (t ≡ false → P y) → P (pick t x y)
pick-keeps P true x y f g = f refl
pick-keeps P false x y f g = g refl

pub choose-keeps : {A : Type 0} (P : A → Type 0) (t : Bool) (x y : A) → (t ≡ true → P x) → (t ≡ false → P y)
    → P (choose t x y)
choose-keeps P true x y f g = f refl
choose-keeps P false x y f g = g refl

-- a choice made twice by one test: of the second only what the first left is seen
pub pick-twice : (t : Bool) (F : ℕ → ℕ) (x y z : ℕ) → F x ≡ y → pick t (F (pick t x z)) (pick t x z) ≡ pick t y z
pick-twice true F x y z e = e
pick-twice false F x y z e = refl

pub pick_other : (t : Bool) (F : ℕ → ℕ) (x y z : ℕ) → F x ≡ y → pick t (pick t z x) (F (pick t z x)) ≡ pick t z y
pick_other true F x y z e = refl
pick_other false F x y z e = e

pub choose-twice : {A : Type 0} (t : Bool) (F : A → A) (x y z : A) → F x ≡ y
    → choose t (F (choose t x z)) (choose t x z) ≡ choose t y z
choose-twice true F x y z e = e
choose-twice false F x y z e = refl

-- a test that refuses with a number above 0, and a test that lets through
pub refuses-not : (t : Bool) (r s : ℕ) → pick t (suc r) s ≡ 0 → (t ≡ false) × (s ≡ 0)
refuses-not true r s e = absurd (let z : suc r ≡ 0 = e in omega arith)
refuses-not false r s e = (refl, e)

pub lets-through : (t : Bool) (r : ℕ) → pick t 0 (suc r) ≡ 0 → t ≡ true
lets-through true r e = refl
lets-through false r e = absurd (let z : suc r ≡ 0 = e in omega arith)

pub both_left : (a b : Bool) → both a b ≡ true → a ≡ true
both_left true b e = refl
both_left false b e = e

pub both_right : (a b : Bool) → both a b ≡ true → b ≡ true
both_right true b e = e
both_right false b e = absurd (false≢true e)

pub both_false : (a b : Bool) → (a ≡ true → b ≡ true → ⊥) → both a b ≡ false
both_false true true h = absurd (h refl refl)
both_false true false h = refl
both_false false b h = refl

pub both-not : (a b : Bool) → both a b ≡ false → a ≡ true → b ≡ false
both-not true b e o = e
both-not false b e o = absurd (false≢true o)

pub both-none : (a : Bool) → both a false ≡ false
both-none true = refl
both-none false = refl

pub either-any : (a : Bool) → either a true ≡ true
either-any true = refl
either-any false = refl

pub either_left : (a b : Bool) → either a b ≡ false → a ≡ false
either_left true b e = e
either_left false b e = refl

pub either-right : (a b : Bool) → either a b ≡ false → b ≡ false
either-right true b e = absurd (false≢true (sym e))
either-right false b e = e

pub or_else-left : (a b : ℕ) → or_else a b ≡ 0 → a ≡ 0
or_else-left zero b e = refl
or_else-left (suc a) b e = rw (ne_eqb (suc a) 0 (λ q. omega arith)) at e

pub or_else-right : (a b : ℕ) → or_else a b ≡ 0 → b ≡ 0
or_else-right zero b e = e
or_else-right (suc a) b e = let z : suc a ≡ 0 = or_else-left (suc a) b e in omega arith

pub or_else-none : (a b : ℕ) → a ≡ 0 → b ≡ 0 → or_else a b ≡ 0
or_else-none a b p q = rw p q

-- ---- a choice as a `return` after its test leaves it

pub choose-first : {A : Type 0} (a b : A) {t u : Bool} {r : A} → t ≡ u → t ≡ true → r ≡ a → r ≡ choose u a b
choose-first a b e q p = p ∙ ap (λ (x : Bool). choose x a b) (sym q ∙ e)

pub choose-second : {A : Type 0} (a b : A) {t u : Bool} {r : A} → t ≡ u → t ≡ false → r ≡ b → r ≡ choose u a b
choose-second a b e q p = p ∙ ap (λ (x : Bool). choose x a b) (sym q ∙ e)
