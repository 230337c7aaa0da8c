-- The check passes exactly the words that `Accepted` describes. Assumes nothing.
use mathlib.Core.Path.{◌≡◌, refl, sym}
use mathlib.Core.Bool.{Bool, true, false, not}
use mathlib.Core.Logic.{⊎_elim}
use mathlib.Core.List.{List}
use Prim.Native.Nat.{ℕ, ◌+◌, ◌≤◌, ◌<◌}
use native.Mathlib.Omega.{arith}
use borrow.Author.Tests.{eqb-true, eqb-false, ltb-false, eq-eqb, ne_eqb, le-ltb}
use lib.Dec.{eqb, ltb}
use lib.Bits.{bit_and}
use lib.ListN.{get_or, replicate}
use Rattle.lists.specs.Choice.{pick, both}
use Rattle.lists.specs.Runs.{first_of}
use Rattle.lists.proofs.Choice.{same_or, split, refuses-not, lets-through, or_else-left, or_else-right, or_else-none}
use Rattle.lists.proofs.First.{first-each, first-all}
use Rattle.words.specs.declared.fields.Layer.{Layer}
use Rattle.words.specs.Fields.{layer_of, width_of, height_of}
use Rattle.words.specs.Check.{reserved_bits, reserved_at, screen_of, place_of, place_at, clash_of, clash_at, clash_below}
use Rattle.words.specs.Check.{kind_of, kind_at, check_of, Plain, Placed, Accepted, LetIn}

-- ---- the tests, one by one

pub not-zero : (a : ℕ) → eqb a 0 ≡ false → 0 < a
not-zero a e = let h : a ≡ 0 → ⊥ = eqb-false a 0 e in omega arith

pub above_zero : (a : ℕ) → 0 < a → eqb a 0 ≡ false
above_zero a h = ne_eqb a 0 (λ q. omega arith)

-- a test that does not refuse
goes_on_lem : (t : Bool) (r s : ℕ) → t ≡ false → s ≡ 0 → pick t r s ≡ 0
goes_on_lem t r s e z = rw (e, z)

reserved-plain : (w : List ℕ) (i : ℕ) → reserved_at w i ≡ 0 → Plain w i
unfolding reserved_at
reserved-plain w i e = eqb-true _ _ (lets-through (eqb (bit_and (get_or w i 0) (get_or reserved_bits i 0)) 0) 6 e)

plain-reserved : (w : List ℕ) (i : ℕ) → Plain w i → reserved_at w i ≡ 0
unfolding reserved_at
plain-reserved w i e = rw (eq-eqb _ 0 e)

-- a float layer that passes is no graphics layer, and floats are let in
kind-passes : (floats : Bool) (l : Layer) → kind_of floats l ≡ 0 → l.floats ≡ true
    → (l.graphics ≡ false) × (floats ≡ true)
unfolding kind_of
kind-passes floats l e f = go floats l.graphics (rw f at e)
  where
    go : (t g : Bool) → pick (both t (not g)) 0 7 ≡ 0 → (g ≡ false) × (t ≡ true)
    go true true e = absurd (let z : ⊥ = omega arith in z)
    go true false e = (refl, refl)
    go false g e = absurd (let z : ⊥ = omega arith in z)

passes-kind : (floats : Bool) (l : Layer) → (l.floats ≡ true → l.graphics ≡ false) → (l.floats ≡ true → floats ≡ true)
    → kind_of floats l ≡ 0
unfolding kind_of
passes-kind floats l g t = go l.floats g t
  where
    go : (f : Bool) → (f ≡ true → l.graphics ≡ false) → (f ≡ true → floats ≡ true)
        → pick f (pick (both floats (not l.graphics)) 0 7) 0 ≡ 0
    go true g t = rw (g refl, t refl)
    go false g t = refl

module _ (W H : ℕ) (l : Layer) where
  place-placed : place_of W H l ≡ 0 → l.on ≡ true → Placed W H l
  unfolding place_of
  place-placed e o =
      let p = refuses-not (eqb l.width 0) 8 _ (rw o at e) in
      let q = refuses-not (eqb l.height 0) 8 _ p.1 in
      let r = refuses-not (ltb W (l.x + l.width)) 9 _ q.1 in
      let s = refuses-not (ltb H (l.y + l.height)) 9 _ r.1 in
      record {
        wide = not-zero _ p.0;
        tall = not-zero _ q.0;
        right = ltb-false _ _ r.0;
        below = ltb-false _ _ s.0;
      }

  placed-place : (l.on ≡ true → Placed W H l) → place_of W H l ≡ 0
  unfolding place_of
  placed-place f = go l.on f
    where
      go : (t : Bool) → (t ≡ true → Placed W H l)
          → pick t
          (pick (eqb l.width 0) 9
          (pick (eqb l.height 0) 9 (pick (ltb W (l.x + l.width)) 10 (pick (ltb H (l.y + l.height)) 10 0)))) 0
          ≡ 0
      go true f = let p = f refl in
          goes_on_lem _ 9 _ (above_zero _ p.wide) (goes_on_lem _ 9 _ (above_zero _ p.tall)
          (goes_on_lem _ 10 _ (le-ltb _ _ p.right) (goes_on_lem _ 10 _ (le-ltb _ _ p.below) refl)))
      go false f = refl

pub clash-apart : (l m : Layer) → clash_of l m ≡ 0 → l.on ≡ true → m.on ≡ true → l.depth ≡ m.depth → ⊥
unfolding clash_of
clash-apart l m e p q = eqb-false _ _ (refuses-not (eqb l.depth m.depth) 10 0 (rw (p, q) at e)).0

apart-clash : (l m : Layer) → (l.on ≡ true → m.on ≡ true → l.depth ≡ m.depth → ⊥) → clash_of l m ≡ 0
unfolding clash_of
apart-clash l m f = go l.on m.on f
  where
    go : (s t : Bool) → (s ≡ true → t ≡ true → l.depth ≡ m.depth → ⊥)
        → pick s (pick t (pick (eqb l.depth m.depth) 11 0) 0) 0 ≡ 0
    go true true f = goes_on_lem _ 11 0 (ne_eqb _ _ (f refl refl)) refl
    go true false f = refl
    go false t f = refl

-- ---- together

module _ (w : List ℕ) where
  clash-each : first_of 8 (clash_below w) ≡ 0 → (n m : ℕ) → m < n → n < 8 → clash_of (layer_of w n) (layer_of w m) ≡ 0
  unfolding clash_below clash_at
  clash-each e n m h hn = first-each n _ (first-each 8 _ e n hn) m h

  each-clash : ((n m : ℕ) → m < n → n < 8 → clash_of (layer_of w n) (layer_of w m) ≡ 0) → first_of 8 (clash_below w) ≡ 0
  unfolding clash_below clash_at
  each-clash f = first-all 8 _ (λ n h. first-all n _ (λ m lt. f n m lt h))

  module _ (floats : Bool) where
    kind-each : check_of floats w ≡ 0 → (n : ℕ) → n < 8 → kind_of floats (layer_of w n) ≡ 0
    unfolding check_of kind_at
    kind-each e n h =
        first-each 8 _ (or_else-left (first_of 8 (kind_at floats w)) _ (or_else-right (first_of 52 (reserved_at w)) _ e)) n h

    pub check-accepted : check_of floats w ≡ 0 → Accepted w
    unfolding check_of screen_of place_at
    check-accepted e =
        let k = or_else-right (first_of 52 (reserved_at w)) _ e in
        let p = or_else-right (first_of 8 (kind_at floats w)) _ k in
        let q = or_else-right (screen_of w) _ p in
        let s = refuses-not (eqb (width_of w) 0) 7 _ (or_else-left (screen_of w) _ p) in
        let t = refuses-not (eqb (height_of w) 0) 7 _ s.1 in
        let c = clash-each (or_else-right (first_of 8 (place_at w)) _ q) in
        record {
          plain = λ i h. reserved-plain w i (first-each 52 _ (or_else-left (first_of 52 (reserved_at w)) _ e) i h);
          kinds = λ n h f. (kind-passes floats _ (kind-each e n h) f).0;
          wide = not-zero _ s.0;
          tall = not-zero _ t.0;
          placed = λ n h o. place-placed _ _ _ (first-each 8 _ (or_else-left (first_of 8 (place_at w)) _ q) n h) o;
          apart = λ n m hn hm on om d. ⊎_elim (λ (g : n ≡ m). g) (λ (ne : n ≡ m → ⊥). absurd (⊎_elim
              (λ (lt : m < n). clash-apart _ _ (c n m lt hn) on om d)
              (λ (ge : n ≤ m). clash-apart _ _ (c m n (omega arith) hm) om on (sym d)) (split m n))) (same_or n m);
        }

    pub check-let : check_of floats w ≡ 0 → LetIn floats w
    check-let e n h f = (kind-passes floats _ (kind-each e n h) f).1

    pub accepted-check : Accepted w → LetIn floats w → check_of floats w ≡ 0
    unfolding check_of kind_at screen_of place_at
    accepted-check a l =
        or_else-none (first_of 52 (reserved_at w)) _ (first-all 52 _ (λ i h. plain-reserved w i (a.plain i h)))
        (or_else-none (first_of 8 (kind_at floats w)) _ (first-all 8 _ (λ n h. passes-kind floats _ (a.kinds n h) (l n h)))
        (or_else-none (screen_of w) _
        (goes_on_lem _ 8 _ (above_zero _ a.wide) (goes_on_lem _ 8 0 (above_zero _ a.tall) refl))
        (or_else-none (first_of 8 (place_at w)) _ (first-all 8 _ (λ n h. placed-place _ _ _ (a.placed n h)))
        (each-clash
        (λ n m lt h. apart-clash _ _ (λ on om d. let q : n ≡ m = a.apart n m h (omega arith) on om d in
        omega arith))))))

-- words that are all 0 have no float layer
pub zeros-let : (floats : Bool) → LetIn floats (replicate 52 0)
unfolding first_of layer_of
zeros-let floats n h f =
    let is : ℕ → ℕ = λ k. pick (layer_of (replicate 52 0) k).floats 1 0 in
    let e : pick (layer_of (replicate 52 0) n).floats 1 0 ≡ 0 = first-each 8 is refl n h in
    absurd (let z : 1 ≡ 0 = rw f at e in omega arith)
