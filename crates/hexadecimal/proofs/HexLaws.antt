-- The turns of the two loops over digits: what is left from here on is as good, and stands for the
-- same bytes, as the whole; and what is printed is the digits so far. Assumes nothing.
use Prim.Native.Nat.{ℕ, suc, ◌+◌, ◌*◌, ◌/◌, ◌%◌, ◌<◌, ◌≤◌}
use mathlib.Core.Path.{◌≡◌, refl, sym, ap, ◌∙◌}
use mathlib.Core.Bool.{Bool, true, false}
use mathlib.Core.List.{List, [], ◌∷◌, ◌++◌, append_assoc, append-nil}
use native.Mathlib.Omega.{arith}
use native.Mathlib.Numerals.{add-one}
use borrow.Author.Tests.{lt-ltb, le-ltb}
use lib.ListN.{length, get_or, set, take, drop, drop_of_length-le, length-append}
use lib.Seq.{take_all, drop-cons, take-suc, take-suc-set, length-take-le}
use Rattle.std.specs.Prelude.{◌≢◌}
use Rattle.lists.specs.Over.{over}
use Rattle.lists.proofs.Over.{over-set}
use Rattle.hexadecimal.specs.Hex.{value_of, is_hex, bytes_in, digit_of, digits_of}

-- ---- reading

-- the two that stand at 2·i, and the rest; or the one that has no second
pair : (t : List ℕ) (i : ℕ) → 2 * i + 1 < length t
    → drop (2 * i) t ≡ get_or t (2 * i) 0 ∷ get_or t (2 * i + 1) 0 ∷ drop (2 * (i + 1)) t
pair t i h =
    let a : 2 * i < length t = omega arith in
    let q : 2 * (i + 1) ≡ suc (2 * i + 1) = omega arith in
    drop-cons t (2 * i) 0 a
    ∙ ap (λ (l : List ℕ). get_or t (2 * i) 0 ∷ l)
    (ap (λ (n : ℕ). drop n t) (sym (add-one (2 * i))) ∙ drop-cons t (2 * i + 1) 0 h
    ∙ ap (λ (n : ℕ). get_or t (2 * i + 1) 0 ∷ drop n t) (sym q))

single : (t : List ℕ) (i : ℕ) → 2 * i < length t → length t ≤ 2 * i + 1 → drop (2 * i) t ≡ get_or t (2 * i) 0 ∷ []
single t i h g =
    let q : length t ≤ suc (2 * i) = omega arith in
    drop-cons t (2 * i) 0 h ∙ ap (λ (l : List ℕ). get_or t (2 * i) 0 ∷ l) (drop_of_length-le t q)

module _ (t : List ℕ) (i : ℕ) (w : Bool) where
  pub is_hex-upper : 2 * i + 1 < length t → is_hex (drop (2 * i) t) ≡ w → value_of (get_or t (2 * i) 0) ≡ 16
      → w ≡ false
  unfolding is_hex
  is_hex-upper h e q =
      let k : 16 ≤ value_of (get_or t (2 * i) 0) = omega arith in
      sym e ∙ rw (pair t i h) (simp (le-ltb (value_of (get_or t (2 * i) 0)) 16 k))

  pub is_hex-lower : (x : ℕ) → 2 * i + 1 < length t → is_hex (drop (2 * i) t) ≡ w
      → (x ≡ value_of (get_or t (2 * i) 0)) × (x < 16) → value_of (get_or t (2 * i + 1) 0) ≡ 16 → w ≡ false
  unfolding is_hex
  is_hex-lower x h e q r =
      let k : value_of (get_or t (2 * i) 0) < 16 = omega arith in
      let m : 16 ≤ value_of (get_or t (2 * i + 1) 0) = omega arith in
      sym e ∙ rw (pair t i h)
      (simp (lt-ltb (value_of (get_or t (2 * i) 0)) 16 k, le-ltb (value_of (get_or t (2 * i + 1) 0)) 16 m))

  pub is_hex-turn : (x y : ℕ) → 2 * i + 1 < length t → is_hex (drop (2 * i) t) ≡ w
      → (x ≡ value_of (get_or t (2 * i) 0)) × (x < 16) → (y ≡ value_of (get_or t (2 * i + 1) 0)) × (y < 16)
      → is_hex (drop (2 * (i + 1)) t) ≡ w
  unfolding is_hex
  is_hex-turn x y h e q r =
      let k : value_of (get_or t (2 * i) 0) < 16 = omega arith in
      let m : value_of (get_or t (2 * i + 1) 0) < 16 = omega arith in
      sym (rw (pair t i h)
      (simp (lt-ltb (value_of (get_or t (2 * i) 0)) 16 k, lt-ltb (value_of (get_or t (2 * i + 1) 0)) 16 m)))
      ∙ e

  -- one digit is left
  pub is_hex-odd : i ≡ length t / 2 → length t % 2 ≡ 1 → is_hex (drop (2 * i) t) ≡ w → w ≡ false
  unfolding is_hex
  is_hex-odd q h e = sym e ∙ rw (single t i (omega arith) (omega arith)) refl

  -- the text ends here
  pub is_hex-even : i ≡ length t / 2 → length t % 2 ≢ 1 → is_hex (drop (2 * i) t) ≡ w → w ≡ true
  unfolding is_hex
  is_hex-even q h e =
      let z : length t ≤ 2 * i = omega arith in
      sym e ∙ rw (drop_of_length-le t z) refl

pub bytes_in-turn : (t s w : List ℕ) (i v x y : ℕ) → 2 * i + 1 < length t → i < length s
    → take i s ++ bytes_in (drop (2 * i) t) ≡ w
    → x ≡ value_of (get_or t (2 * i) 0) → y ≡ value_of (get_or t (2 * i + 1) 0) → v ≡ 16 * x + y
    → take (i + 1) (set s i v) ++ bytes_in (drop (2 * (i + 1)) t) ≡ w
unfolding bytes_in
bytes_in-turn t s w i v x y h b e q r f =
    rw (ap (λ (n : ℕ). take n (set s i v)) (add-one i) ∙ take-suc-set s i v b, append_assoc, f, q, r)
    (ap (λ (l : List ℕ). take i s ++ bytes_in l) (sym (pair t i h)) ∙ e)

pub bytes_in-end : (t s w : List ℕ) (i : ℕ) → i ≡ length t / 2 → length t % 2 ≢ 1
    → take i s ++ bytes_in (drop (2 * i) t) ≡ w → take (length t / 2) s ≡ w
unfolding bytes_in
bytes_in-end t s w i q g e =
    let h : length t ≤ 2 * i = omega arith in
    rw (sym q) (sym (append-nil (take i s)) ∙ ap (λ (l : List ℕ). take i s ++ bytes_in l) (sym (drop_of_length-le t h)) ∙ e)

-- ---- printing

pub length-digits_of : (l : List ℕ) → length (digits_of l) ≡ 2 * length l
unfolding digits_of
length-digits_of [] = refl
length-digits_of (x ∷ rest) = omega (arith, length-digits_of rest)

digits_of-append : (a b : List ℕ) → digits_of (a ++ b) ≡ digits_of a ++ digits_of b
unfolding digits_of
digits_of-append [] b = refl
digits_of-append (x ∷ rest) b = ap (λ (l : List ℕ). digit_of (x / 16) ∷ digit_of (x % 16) ∷ l) (digits_of-append rest b)

digits_of-more : (l : List ℕ) (i u v : ℕ) → i < length l → u ≡ digit_of (get_or l i 0 / 16) → v ≡ digit_of (get_or l i 0 % 16)
    → (digits_of (take i l) ++ u ∷ []) ++ v ∷ [] ≡ digits_of (take (i + 1) l)
unfolding digits_of
digits_of-more l i u v h p q =
    append_assoc (digits_of (take i l)) (u ∷ []) (v ∷ [])
    ∙ rw (p, q) (sym (ap digits_of (ap (λ (n : ℕ). take n l) (add-one i) ∙ take-suc l i 0 h)
    ∙ digits_of-append (take i l) (get_or l i 0 ∷ [])))

module _ (l o o₀ : List ℕ) (i : ℕ) where
  pub digits_of-turn : (u v : ℕ) → i < length l → 2 * length l ≤ length o₀ → o ≡ over (digits_of (take i l)) o₀
      → u ≡ digit_of (get_or l i 0 / 16) → v ≡ digit_of (get_or l i 0 % 16)
      → set (set o (2 * i) u) (2 * i + 1) v ≡ over (digits_of (take (i + 1) l)) o₀
  digits_of-turn u v h b e p q =
      let k : 2 * i ≡ length (digits_of (take i l)) =
      omega (arith, length-digits_of (take i l), length-take-le i l (omega arith)) in
      let m : 2 * i + 1 ≡ length (digits_of (take i l) ++ u ∷ []) = simp length-append (omega arith) in
      ap (λ (z : List ℕ). set (set z (2 * i) u) (2 * i + 1) v) e
      ∙ ap (λ (z : List ℕ). set z (2 * i + 1) v) (over-set (digits_of (take i l)) o₀ (2 * i) u k (omega arith))
      ∙ over-set (digits_of (take i l) ++ u ∷ []) o₀ (2 * i + 1) v m (omega arith)
      ∙ ap (λ (z : List ℕ). over z o₀) (digits_of-more l i u v h p q)

  pub digits_of-end : length l ≤ i → o ≡ over (digits_of (take i l)) o₀ → o ≡ over (digits_of l) o₀
  digits_of-end h e = e ∙ ap (λ (z : List ℕ). over (digits_of z) o₀) (take_all i l h)
