-- Laws of `tab` and `each`. Assumes nothing.
use mathlib.Core.Path.{◌≡◌, refl, sym, ap, ap₂, ◌∙◌}
use mathlib.Core.Logic.{⊎_elim}
use mathlib.Core.List.{List, [], ◌∷◌, ◌++◌}
use Prim.Native.Nat.{ℕ, zero, suc, ◌+◌, ◌-◌, ◌≤◌, ◌<◌}
use native.Mathlib.Nat.{le_of_suc-le-suc, not-suc-le-zero}
use native.Mathlib.Omega.{arith}
use lib.ListN.{length, get_or, take, drop, length-append, length-drop, get_or-append}
use lib.Seq.{ext_get_or, get_or-take, get_or-drop, get_or-append-add, length-take-le}
use Rattle.lists.specs.Tab.{tab, each}
use Rattle.lists.proofs.Choice.{split}

-- ---- `tab`

pub length-tab : (n : ℕ) (f : ℕ → ℕ) → length (tab n f) ≡ n
unfolding tab
length-tab zero f = refl
length-tab (suc n) f = ap suc (length-tab n (λ i. f (suc i)))

pub get_d-tab : (n : ℕ) (f : ℕ → ℕ) (i : ℕ) → i < n → get_or (tab n f) i 0 ≡ f i
unfolding tab
get_d-tab zero f i h = absurd (not-suc-le-zero h)
get_d-tab (suc n) f zero h = refl
get_d-tab (suc n) f (suc i) h = get_d-tab n (λ i. f (suc i)) i (le_of_suc-le-suc h)

-- a list that has f i at each index i is the tab of f
-- its elements are below a bound where the rule's numbers are
pub tab-below : (n b : ℕ) (f : ℕ → ℕ) → 0 < b → ((i : ℕ) → f i < b) → (i : ℕ) → get_or (tab n f) i 0 < b
unfolding tab
tab-below zero b f z h i = z
tab-below (suc n) b f z h zero = h zero
tab-below (suc n) b f z h (suc i) = tab-below n b (λ i. f (suc i)) z (λ i. h (suc i)) i

pub is-tab : (l : List ℕ) (n : ℕ) (f : ℕ → ℕ) → length l ≡ n → ((i : ℕ) → i < n → get_or l i 0 ≡ f i) → l ≡ tab n f
is-tab l n f e h =
    ext_get_or 0 l (tab n f) (e ∙ sym (length-tab n f))
    (λ i lt. let b : i < n = omega arith in h i b ∙ sym (get_d-tab n f i b))

pub tab-cong : (n : ℕ) (f g : ℕ → ℕ) → ((i : ℕ) → i < n → f i ≡ g i) → tab n f ≡ tab n g
tab-cong n f g h = is-tab (tab n f) n g (length-tab n f) (λ i lt. get_d-tab n f i lt ∙ h i lt)

-- ---- `each`

pub length-each : (g : ℕ → ℕ → ℕ) (l : List ℕ) → length (each g l) ≡ length l
unfolding each
length-each g [] = refl
length-each g (p ∷ l) = ap suc (length-each (λ i. g (suc i)) l)

pub get_d-each : (g : ℕ → ℕ → ℕ) (l : List ℕ) (i : ℕ) → i < length l → get_or (each g l) i 0 ≡ g i (get_or l i 0)
unfolding each
get_d-each g [] i h = absurd (not-suc-le-zero h)
get_d-each g (p ∷ l) zero h = refl
get_d-each g (p ∷ l) (suc i) h = get_d-each (λ i. g (suc i)) l i (le_of_suc-le-suc h)

-- a list that is as the rule says at each index, as a loop over a buffer leaves it
pub is-each : (l k : List ℕ) (g : ℕ → ℕ → ℕ) → length k ≡ length l
    → ((i : ℕ) → i < length l → get_or k i 0 ≡ g i (get_or l i 0)) → k ≡ each g l
is-each l k g e h =
    ext_get_or 0 k (each g l) (e ∙ sym (length-each g l))
    (λ i lt. let b : i < length l = omega arith in h i b ∙ sym (get_d-each g l i b))

pub each-cong : (g h : ℕ → ℕ → ℕ) (l : List ℕ) → ((i p : ℕ) → g i p ≡ h i p) → each g l ≡ each h l
unfolding each
each-cong g h [] e = refl
each-cong g h (p ∷ l) e =
    ap₂ (λ (x : ℕ) (y : List ℕ). x ∷ y) (e zero p) (each-cong (λ i. g (suc i)) (λ i. h (suc i)) l (λ i q. e (suc i) q))

-- two rules that agree below the list's length
pub each-cong-below : (g h : ℕ → ℕ → ℕ) (l : List ℕ) → ((i : ℕ) → i < length l → g i (get_or l i 0) ≡ h i (get_or l i 0))
    → each g l ≡ each h l
each-cong-below g h l e = is-each l (each g l) h (length-each g l) (λ i b. get_d-each g l i b ∙ e i b)

-- a rule that leaves every element
pub each-id : (g : ℕ → ℕ → ℕ) (l : List ℕ) → ((i p : ℕ) → g i p ≡ p) → l ≡ each g l
unfolding each
each-id g [] e = refl
each-id g (p ∷ l) e =
    ap₂ (λ (x : ℕ) (y : List ℕ). x ∷ y) (sym (e zero p)) (each-id (λ i. g (suc i)) l (λ i q. e (suc i) q))

-- one rule and then another
pub each-each : (g h : ℕ → ℕ → ℕ) (l : List ℕ) → each h (each g l) ≡ each (λ i p. h i (g i p)) l
unfolding each
each-each g h [] = refl
each-each g h (p ∷ l) = ap (λ (y : List ℕ). h zero (g zero p) ∷ y) (each-each (λ i. g (suc i)) (λ i. h (suc i)) l)

-- one more step h, in front of what is left, g: the whole is f
pub each_turn : (g h f : ℕ → ℕ → ℕ) (l : List ℕ) {l' w : List ℕ} → l' ≡ each h l → ((i p : ℕ) → f i p ≡ g i (h i p))
    → each f l ≡ w → each g l' ≡ w
each_turn g h f l e s i = ap (each g) e ∙ each-each h g l ∙ each-cong _ f l (λ i p. sym (s i p)) ∙ i

-- one more step h, after what is done, g: together f
pub each-then : (g h f : ℕ → ℕ → ℕ) (l : List ℕ) {l' l'' : List ℕ} → l' ≡ each g l → l'' ≡ each h l'
    → ((i p : ℕ) → f i p ≡ h i (g i p)) → l'' ≡ each f l
each-then g h f l e e' s = e' ∙ ap (each h) e ∙ each-each g h l ∙ each-cong _ f l (λ i p. sym (s i p))

-- ---- a part of a list, n elements from o on

pub length_part : (l : List ℕ) (o n : ℕ) → o + n ≤ length l → length (take n (drop o l)) ≡ n
length_part l o n h = length-take-le n (drop o l) (simp length-drop (omega arith))

pub get_d_part : (l : List ℕ) (o n i : ℕ) → i < n → get_or (take n (drop o l)) i 0 ≡ get_or l (o + i) 0
get_d_part l o n i h = get_or-take n (drop o l) i 0 h ∙ get_or-drop o l i 0

-- ---- a part that was lent came back with the rule g of its own, and nothing else changed: one rule f

module _ (f g : ℕ → ℕ → ℕ) (l part : List ℕ) (o n : ℕ) (fits : o + n ≤ length l)
    (e : part ≡ each g (take n (drop o l))) where
  length-lent : length part ≡ n
  length-lent = ap length e ∙ length-each g (take n (drop o l)) ∙ length_part l o n fits

  get_d-lent : (i : ℕ) → i < n → get_or part i 0 ≡ g i (get_or l (o + i) 0)
  get_d-lent i h =
      ap (λ (x : List ℕ). get_or x i 0) e ∙ get_d-each g (take n (drop o l)) i (omega (arith, length_part l o n fits))
      ∙ ap (g i) (get_d_part l o n i h)

  -- from o on
  behind : ((i p : ℕ) → i < n → f (o + i) p ≡ g i p) → ((i p : ℕ) → o + n ≤ i → i < length l → f i p ≡ p)
      → (j : ℕ) → o + j < length l → get_or (part ++ drop n (drop o l)) j 0 ≡ f (o + j) (get_or l (o + j) 0)
  behind mid high j h = ⊎_elim
      (λ (lt : j < n). get_or-append part _ 0 j (omega (arith, length-lent)) ∙ get_d-lent j lt ∙ sym (mid j _ lt))
      (λ (ge : n ≤ j).
      let q : j ≡ length part + (j - n) = omega (arith, length-lent) in
      let r : o + (n + (j - n)) ≡ o + j = omega arith in
      ap (λ (k : ℕ). get_or (part ++ drop n (drop o l)) k 0) q ∙ get_or-append-add part (drop n (drop o l)) (j - n) 0
      ∙ get_or-drop n (drop o l) (j - n) 0 ∙ get_or-drop o l (n + (j - n)) 0 ∙ ap (λ (k : ℕ). get_or l k 0) r
      ∙ sym (high (o + j) _ (omega arith) h))
      (split j n)

  pub each_part : ((i p : ℕ) → i < n → f (o + i) p ≡ g i p) → ((i p : ℕ) → i < o → f i p ≡ p)
      → ((i p : ℕ) → o + n ≤ i → i < length l → f i p ≡ p)
      → take o l ++ (part ++ drop n (drop o l)) ≡ each f l
  each_part mid low high =
      let long-o : length (take o l) ≡ o = length-take-le o l (omega arith) in
      is-each l _ f
      (simp (length-append, length-drop) (omega (arith, length-lent)))
      (λ i h. ⊎_elim
      (λ (lt : i < o). get_or-append (take o l) _ 0 i (omega arith) ∙ get_or-take o l i 0 lt ∙ sym (low i _ lt))
      (λ (ge : o ≤ i).
      let q : i ≡ length (take o l) + (i - o) = omega arith in
      let r : o + (i - o) ≡ i = omega arith in
      ap (λ (k : ℕ). get_or (take o l ++ (part ++ drop n (drop o l))) k 0) q
      ∙ get_or-append-add (take o l) (part ++ drop n (drop o l)) (i - o) 0
      ∙ behind mid high (i - o) (omega arith) ∙ ap (λ (k : ℕ). f k (get_or l k 0)) r)
      (split i o))
