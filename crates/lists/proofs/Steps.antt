-- Laws of `through` and `keep`. Assumes nothing.
use mathlib.Core.Path.{◌≡◌, refl, sym, ap, ◌∙◌}
use mathlib.Core.Bool.{Bool, true, false}
use mathlib.Core.List.{List, [], ◌∷◌, ◌++◌}
use Prim.Native.Nat.{ℕ, zero, suc, ◌+◌, ◌≤◌, ◌<◌, zero-le, suc-le-suc}
use native.Mathlib.Nat.{le_of_suc-le-suc}
use native.Mathlib.Numerals.{add-one}
use native.Mathlib.Omega.{arith}
use lib.ListN.{length, get_or, take}
use lib.Seq.{take-suc}
use Rattle.lists.specs.Choice.{pick, choose}
use Rattle.lists.specs.Steps.{through, keep}

pub through-none : (step : ℕ → ℕ → ℕ) (p : ℕ) → through step [] p ≡ p
unfolding through
through-none step p = refl

pub through-one : (step : ℕ → ℕ → ℕ) (n p : ℕ) → through step (n ∷ []) p ≡ step n p
unfolding through
through-one step n p = refl

pub through-append : (step : ℕ → ℕ → ℕ) (l m : List ℕ) (p : ℕ)
    → through step (l ++ m) p ≡ through step m (through step l p)
unfolding through
through-append step [] m p = refl
through-append step (n ∷ l) m p = through-append step l m (step n p)

pub through-cong : (f g : ℕ → ℕ → ℕ) (l : List ℕ) (p : ℕ) → ((n q : ℕ) → f n q ≡ g n q) → through f l p ≡ through g l p
unfolding through
through-cong f g [] p h = refl
through-cong f g (n ∷ l) p h = ap (through f l) (h n p) ∙ through-cong f g l (g n p) h

-- steps that do nothing
pub through-id : (step : ℕ → ℕ → ℕ) (l : List ℕ) (p : ℕ) → ((n q : ℕ) → step n q ≡ q) → through step l p ≡ p
unfolding through
through-id step [] p h = refl
through-id step (n ∷ l) p h = ap (through step l) (h n p) ∙ through-id step l p h

-- one element more
pub through-next : (step : ℕ → ℕ → ℕ) (l : List ℕ) (k p : ℕ) → k < length l
    → through step (take (k + 1) l) p ≡ step (get_or l k 0) (through step (take k l) p)
through-next step l k p h =
    rw (add-one, take-suc l k 0 h) (through-append step (take k l) (get_or l k 0 ∷ []) p
    ∙ through-one step (get_or l k 0) _)

-- along what is kept: a step where the test holds
pub through-keep : (t : ℕ → Bool) (step : ℕ → ℕ → ℕ) (l : List ℕ) (p : ℕ)
    → through step (keep t l) p ≡ through (λ n q. pick (t n) (step n q) q) l p
unfolding through keep
through-keep t step [] p = refl
through-keep t step (n ∷ l) p = go (t n) (through-keep t step l)
  where
    go : (b : Bool) → ((q : ℕ) → through step (keep t l) q ≡ through (λ n q. pick (t n) (step n q) q) l q)
        → through step (choose b (n ∷ keep t l) (keep t l)) p
        ≡ through (λ n q. pick (t n) (step n q) q) l (pick b (step n p) p)
    go true h = h (step n p)
    go false h = h p

-- ---- steps that may trade places, and that done once more change nothing

module _ (step : ℕ → ℕ → ℕ) (swap : (n m q : ℕ) → step n (step m q) ≡ step m (step n q)) where
  through-swap : (l : List ℕ) (n p : ℕ) → through step l (step n p) ≡ step n (through step l p)
  unfolding through
  through-swap [] n p = refl
  through-swap (m ∷ l) n p = ap (through step l) (swap m n p) ∙ through-swap l n (step m p)

  pub through-again : ((n q : ℕ) → step n (step n q) ≡ step n q) → (l : List ℕ) (p : ℕ)
      → through step l (through step l p) ≡ through step l p
  unfolding through
  through-again twice [] p = refl
  through-again twice (n ∷ l) p =
      ap (through step l) (sym (through-swap l n (step n p)) ∙ ap (through step l) (twice n p))
      ∙ through-again twice l (step n p)

-- ---- what is kept

pub keep_append : (t : ℕ → Bool) (l m : List ℕ) → keep t (l ++ m) ≡ keep t l ++ keep t m
unfolding keep
keep_append t [] m = refl
keep_append t (n ∷ l) m = go (t n) (keep_append t l m)
  where
    go : (b : Bool) → keep t (l ++ m) ≡ keep t l ++ keep t m
        → choose b (n ∷ keep t (l ++ m)) (keep t (l ++ m)) ≡ choose b (n ∷ keep t l) (keep t l) ++ keep t m
    go true h = ap (λ (x : List ℕ). n ∷ x) h
    go false h = h

pub keep-next : (t : ℕ → Bool) (l : List ℕ) (k : ℕ) → k < length l
    → keep t (take (k + 1) l) ≡ keep t (take k l) ++ choose (t (get_or l k 0)) (get_or l k 0 ∷ []) []
unfolding keep
keep-next t l k h = rw (add-one, take-suc l k 0 h) (keep_append t (take k l) (get_or l k 0 ∷ []))

pub length-keep-le : (t : ℕ → Bool) (l : List ℕ) → length (keep t l) ≤ length l
unfolding keep
length-keep-le t [] = omega arith
length-keep-le t (n ∷ l) = go (t n) (length-keep-le t l)
  where
    go : (b : Bool) → length (keep t l) ≤ length l → length (choose b (n ∷ keep t l) (keep t l)) ≤ suc (length l)
    go true h = omega arith
    go false h = omega arith

-- ---- what is so of every element

abbrev pub Every : (ℕ → Type 0) → List ℕ → Type 0
Every P l = (i : ℕ) → i < length l → P (get_or l i 0)

pub every_append : (P : ℕ → Type 0) (l m : List ℕ) → Every P l → Every P m → Every P (l ++ m)
every_append P [] m f g i h = g i h
every_append P (n ∷ l) m f g zero h = f zero (suc-le-suc zero-le)
every_append P (n ∷ l) m f g (suc i) h =
    every_append P l m (λ i lt. f (suc i) (suc-le-suc lt)) g i (le_of_suc-le-suc h)

pub every-keep : (P : ℕ → Type 0) (t : ℕ → Bool) (l : List ℕ) → Every P l → Every P (keep t l)
unfolding keep
every-keep P t [] f i h = f i h
every-keep P t (n ∷ l) f i h =
    go (t n) (every-keep P t l (λ i lt. f (suc i) (suc-le-suc lt))) (f zero (suc-le-suc zero-le)) i h
  where
    go : (b : Bool) → Every P (keep t l) → P n → Every P (choose b (n ∷ keep t l) (keep t l))
    go true f z zero h = z
    go true f z (suc i) h = f i (le_of_suc-le-suc h)
    go false f z i h = f i h
