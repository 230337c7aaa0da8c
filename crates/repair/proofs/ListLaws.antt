-- The list of changes: how long it is, the loop that writes it, and that applied to the old words it gives
-- the new ones, undone the old ones. Assumes nothing.
use mathlib.Core.Path.{◌≡◌, refl, sym, ap, ◌∙◌}
use mathlib.Core.Bool.{Bool, true, false}
use mathlib.Core.List.{List, [], ◌∷◌, ◌++◌, append_assoc, append-nil}
use Prim.Native.Nat.{ℕ, zero, suc, ◌+◌, ◌*◌, ◌≤◌, ◌<◌}
use native.Mathlib.Numerals.{add-one}
use native.Mathlib.Omega.{arith}
use borrow.Author.Tests.{eqb-true, eq-eqb}
use lib.Dec.{eqb}
use lib.ListN.{get_or, set, length, length-append}
use Rattle.lists.specs.Choice.{pick, choose}
use Rattle.lists.specs.Runs.{sum_of}
use Rattle.lists.specs.Over.{over}
use Rattle.lists.proofs.Tab.{is-tab}
use Rattle.lists.proofs.Upto.{Upto, upto-none, upto-set, upto_skip, upto_done}
use Rattle.lists.proofs.Sum.{sum-none, sum_step, sum-le}
use Rattle.lists.proofs.Over.{over_none, over-set, length_over}
use Rattle.repair.specs.Changes.{change_at, changes_below, changes_of, changed_at, changed_of, put_by}

-- ---- its length

-- nothing changed, nothing listed
pub changes-none : (a : List ℕ) (k : ℕ) → changes_below a a k ≡ []
unfolding changes_below
changes-none a zero = refl
changes-none a (suc k) = rw (changes-none a k, eq-eqb (get_or a k 0) (get_or a k 0) refl) refl

module _ (a b : List ℕ) where
  changed-one : (i : ℕ) → changed_at a b i ≤ 1
  changed-one i = go (eqb (get_or a i 0) (get_or b i 0))
    where
      go : (t : Bool) → pick t 0 1 ≤ 1
      go true = omega arith
      go false = omega arith

  changed-le : (k : ℕ) → sum_of k (changed_at a b) ≤ k
  changed-le k = omega (arith, sum-le k 1 (changed_at a b) (λ i h. changed-one i))

  -- three numbers for each word
  length-changes : (k : ℕ) → length (changes_below a b k) ≡ 3 * sum_of k (changed_at a b)
  unfolding changes_below sum_of
  length-changes zero = refl
  length-changes (suc k) =
      length-append (changes_below a b k) (change_at a b k) ∙ omega (arith, length-changes k, one)
    where
      go : (t : Bool) → length (choose t [] (k ∷ get_or a k 0 ∷ get_or b k 0 ∷ [])) ≡ 3 * pick t 0 1
      go true = refl
      go false = refl

      one : length (change_at a b k) ≡ 3 * changed_at a b k
      one = go (eqb (get_or a k 0) (get_or b k 0))

  pub length-changes_of : length (changes_of a b) ≡ 3 * changed_of a b
  unfolding changes_of changed_of
  length-changes_of = length-changes 52

  pub changed_of-le : changed_of a b ≤ 52
  unfolding changed_of
  changed_of-le = changed-le 52

-- ---- the loop that writes it: before it, a word, after it

-- the entries of words below i stand in front, and are so many
pub record Listed (a b l₀ : List ℕ) (i count : ℕ) (l : List ℕ) : Type 0 where
  pub list : l ≡ over (changes_below a b i) l₀
  pub many : count ≡ sum_of i (changed_at a b)

pub listed-none : (a b l₀ : List ℕ) → Listed a b l₀ 0 0 l₀
unfolding changes_below
listed-none a b l₀ = record { list = over_none l₀; many = sym (sum-none (changed_at a b)) }

module _ (a b l₀ : List ℕ) (i count : ℕ) (l : List ℕ) (u : Listed a b l₀ i count l) (long : length l₀ ≡ 156) where
  pub listed-long : i ≤ 52 → length l ≡ 156
  listed-long h =
      ap length u.list
      ∙ length_over (changes_below a b i) l₀ (omega (arith, length-changes a b i, changed-le a b i)) ∙ long

  pub listed-room : i < 52 → (3 * count + 2 < length l) × (i < 52) × (length l < 4294967296)
  listed-room h =
      let n = listed-long (omega arith) in
      (omega (arith, u.many, changed-le a b i), h, omega arith)

  pub listed_next : {l' : List ℕ} {count' : ℕ} → i < 52 → count' ≡ count + changed_at a b i
      → l' ≡ choose (eqb (get_or a i 0) (get_or b i 0)) l
      (set (set (set l (3 * count) i) (3 * count + 1) (get_or a i 0)) (3 * count + 2) (get_or b i 0))
      → Listed a b l₀ (i + 1) count' l'
  unfolding changes_below
  listed_next h c e =
      rw add-one (record {
        list = e ∙ go (eqb (get_or a i 0) (get_or b i 0));
        many = c ∙ ap (λ (n : ℕ). n + changed_at a b i) u.many ∙ sym (sum_step i (changed_at a b)) ∙ rw add-one refl;
      })
    where
      A : List ℕ
      A = changes_below a b i

      x : ℕ
      x = get_or a i 0

      y : ℕ
      y = get_or b i 0

      at : 3 * count ≡ length A
      at = omega (arith, u.many, length-changes a b i)

      room : 3 * count + 2 < length l₀
      room = omega (arith, u.many, changed-le a b i)

      go : (t : Bool) → choose t l (set (set (set l (3 * count) i) (3 * count + 1) x) (3 * count + 2) y)
          ≡ over (A ++ choose t [] (i ∷ x ∷ y ∷ [])) l₀
      go true = u.list ∙ ap (λ (z : List ℕ). over z l₀) (sym (append-nil A))
      go false =
          let n₁ : 3 * count + 1 ≡ length (A ++ i ∷ []) = simp length-append (omega (arith, at)) in
          let n₂ : 3 * count + 2 ≡ length ((A ++ i ∷ []) ++ x ∷ []) = simp length-append (omega (arith, at)) in
          ap (λ (z : List ℕ). set (set (set z (3 * count) i) (3 * count + 1) x) (3 * count + 2) y) u.list
          ∙ ap (λ (z : List ℕ). set (set z (3 * count + 1) x) (3 * count + 2) y)
          (over-set A l₀ (3 * count) i at (omega (arith, room)))
          ∙ ap (λ (z : List ℕ). set z (3 * count + 2) y)
          (over-set (A ++ i ∷ []) l₀ (3 * count + 1) x n₁ (omega (arith, room)))
          ∙ over-set ((A ++ i ∷ []) ++ x ∷ []) l₀ (3 * count + 2) y n₂ room
          ∙ ap (λ (z : List ℕ). over z l₀)
          (append_assoc (A ++ i ∷ []) (x ∷ []) (y ∷ []) ∙ append_assoc A (i ∷ []) (x ∷ y ∷ []))

pub listed-all : (a b l₀ : List ℕ) (i count : ℕ) (l : List ℕ) → Listed a b l₀ i count l → i ≤ 52 → 52 ≤ i
    → (count ≡ changed_of a b) × (l ≡ over (changes_of a b) l₀)
unfolding changes_of changed_of
listed-all a b l₀ i count l u p q = let e : 52 ≡ i = omega arith in rw e (u.many, u.list)

-- ---- applied and undone

pick_at : (f : Bool) (a b : List ℕ) (k : ℕ) → pick f (get_or a k 0) (get_or b k 0) ≡ get_or (choose f a b) k 0
pick_at true a b k = refl
pick_at false a b k = refl

pick_same : (f : Bool) (a b : List ℕ) (k : ℕ) → get_or a k 0 ≡ get_or b k 0
    → get_or (choose f b a) k 0 ≡ get_or (choose f a b) k 0
pick_same true a b k e = sym e
pick_same false a b k e = e

module _ (f : Bool) (a b : List ℕ) where
  put_one_lem : (k : ℕ) (l w : List ℕ) → put_by f (change_at a b k ++ l) w ≡ put_by f l (put_by f (change_at a b k) w)
  unfolding put_by
  put_one_lem k l w = go (eqb (get_or a k 0) (get_or b k 0))
    where
      go : (t : Bool) → let c = choose t [] (k ∷ get_or a k 0 ∷ get_or b k 0 ∷ []) in
          put_by f (c ++ l) w ≡ put_by f l (put_by f c w)
      go true = refl
      go false = refl

  put-more : (k : ℕ) (l w : List ℕ)
      → put_by f (changes_below a b k ++ l) w ≡ put_by f l (put_by f (changes_below a b k) w)
  unfolding put_by changes_below
  put-more zero l w = refl
  put-more (suc k) l w =
      ap (λ (x : List ℕ). put_by f x w) (append_assoc (changes_below a b k) (change_at a b k) l)
      ∙ put-more k (change_at a b k ++ l) w ∙ put_one_lem k l (put_by f (changes_below a b k) w)
      ∙ ap (put_by f l) (sym (put-more k (change_at a b k) w))

  -- the words to start from, and those to come to
  abbrev from : List ℕ
  from = choose f a b

  abbrev to : List ℕ
  to = choose f b a

  module _ (long : length from ≡ 52) where
    -- one word more
    put-turn : (k : ℕ) (v : List ℕ) → k < 52 → Upto v from (λ i. get_or to i 0) k
        → Upto (put_by f (change_at a b k) v) from (λ i. get_or to i 0) (suc k)
    unfolding put_by
    put-turn k v h u = go (eqb (get_or a k 0) (get_or b k 0)) refl
      where
        go : (t : Bool) → eqb (get_or a k 0) (get_or b k 0) ≡ t
            → Upto (put_by f (choose t [] (k ∷ get_or a k 0 ∷ get_or b k 0 ∷ [])) v) from (λ i. get_or to i 0) (suc k)
        go true e =
            upto_skip (suc k) u (omega arith)
            (λ i lo hi _. let q : i ≡ k = omega arith in rw q (pick_same f a b k (eqb-true _ _ e)))
        go false e = upto-set k _ u refl (omega arith) (omega arith) (pick_at f b a k)

    put-below : (k : ℕ) → k ≤ 52 → Upto (put_by f (changes_below a b k) from) from (λ i. get_or to i 0) k
    unfolding changes_below put_by
    put-below zero h = upto-none from (λ i. get_or to i 0)
    put-below (suc k) h = rw (put-more k (change_at a b k) from) (put-turn k _ h (put-below k (omega arith)))

    put_all : length to ≡ 52 → put_by f (changes_of a b) from ≡ to
    unfolding changes_of
    put_all long' =
        upto_done (put-below 52 (omega arith)) (omega arith)
        ∙ rw long (sym (is-tab to 52 (λ i. get_or to i 0) long' (λ i h. refl)))

-- applied to the old words it gives the new ones, and undone the old ones
pub changes_of-put : (f : Bool) (a b : List ℕ) → length a ≡ 52 → length b ≡ 52
    → put_by f (changes_of a b) (choose f a b) ≡ choose f b a
changes_of-put true a b la lb = put_all true a b la lb
changes_of-put false a b la lb = put_all false a b lb la
