-- The byte of a float by its bits: those of a value put between 2 ^ -9 and 1 lie between the patterns of the two,
-- and of such a pattern the code's steps give the byte. Assumes nothing.
use mathlib.Core.Path.{◌≡◌, refl, sym, ap, ap₂, ◌∙◌, subst}
use mathlib.Core.Logic.{⊎_elim}
use mathlib.Core.Bool.{Bool, true, false, not, true≢false}
use Prim.Native.Nat.{ℕ, suc, ◌+◌, ◌-◌, ◌*◌, ◌/◌, ◌%◌, ◌^◌, ◌≤◌, ◌<◌}
use native.Mathlib.Nat.{le_trans, le_of_eq, le_of_lt, lt_of_lt_of_le, mul_assoc, mul_comm, add-mul, mul-le-mul_right}
use native.Mathlib.Nat.{mul-lt-mul_of_pos_right, div-lt_iff_lt-mul, le-div_iff_mul-le, not-le_of_lt, add-mul-div_right}
use native.Mathlib.Omega.{arith}
use borrow.Author.Tests.{lt-leb, ne_eqb, ltb-true, ltb-false}
use lib.Dec.{T, leb}
use lib.Pow.{pow_pos, pow_mono, pow-add, shl_lt, shl-shr, shr-shr}
use lib.Ieee.{Float, nan, inf, fin, binary32, fits, is_nan, up, down, lt, size, odd, of_fields, of_bits, to_bits}
use lib.Ieee.Bits.{of_bits-to_bits}
use lib.Ieee.Digits.{size-lt, size-le, size_reaches}
use lib.Ieee.Exact.{HasValue, odd_sign}
use lib.Ieee.Fits.{down_pos, kept-lt}
use Rattle.lists.specs.Choice.{choose}
use Rattle.lists.proofs.Choice.{split}
use Rattle.river.specs.River.{byte_of_fraction, byte_of}
use Rattle.river.specs.Engine.Steps.{least, most, at_least, at_most}
use Rattle.river.proofs.FractionLaws.{from_one, below_one, same-value, tiny}

-- ---- the ends, by the value

low_byte : (x : Float) → lt least x ≡ false → byte_of x ≡ 0
unfolding byte_of lt of_bits
low_byte nan h = refl
low_byte (inf true) h = refl
low_byte (inf false) h = absurd (true≢false h)
low_byte (fin true m e) h = refl
low_byte (fin false m e) h =
    let q : m * up e * 512 ≤ 1 * 1 * down e = ltb-false _ _ h in
    let p : 0 < down e = down_pos e in
    tiny (m * up e) (down e) (omega arith)

top_byte : (x : Float) → lt least x ≡ true → lt x most ≡ false → byte_of x ≡ 255
unfolding byte_of lt of_bits
top_byte nan h g = absurd (true≢false (sym h))
top_byte (inf true) h g = absurd (true≢false (sym h))
top_byte (inf false) h g = refl
top_byte (fin true m e) h g = absurd (true≢false (sym h))
top_byte (fin false m e) h g =
    let q : 1 * 1 * down e ≤ m * up e * 1 = ltb-false _ _ g in
    from_one (m * up e) (down e) (omega arith)

-- ---- the patterns between them. Of a number that is n times 2 ^ -149 the pattern has the leading 24 digits of n, and
-- above them how many digits are left out

abbrev pattern : ℕ → ℕ
pattern n = 0 + (size n - 24) * 8388608 + n / 2 ^ (size n - 24)

pattern_lt : (n : ℕ) → n < 2 ^ 149 → pattern n < 0x3f80_0000
pattern_lt n h =
    let a : size n ≤ 149 = size-le n 149 h in
    let b : n / 2 ^ (size n - 24) < 16777216 = kept-lt 24 n in
    omega arith

pattern-ge : (n : ℕ) → 2 ^ 140 ≤ n → 0x3b00_0000 ≤ pattern n
pattern-ge n h = ⊎_elim
    (λ (l : size n < 141).
    let t : 2 ^ size n ≤ 2 ^ 140 = pow_mono (let q : size n ≤ 140 = omega arith in q) in
    absurd (not-le_of_lt (size-lt n) (le_trans t h)))
    (λ (g : 141 ≤ size n).
    let t : 2 ^ (23 + (size n - 24)) ≤ n = size_reaches n (23 + (size n - 24)) (omega arith) in
    let q : 8388608 ≤ n / 2 ^ (size n - 24) =
    (le-div_iff_mul-le (pow_pos (size n - 24))).1 (le_trans (le_of_eq (sym (pow-add 2 23 (size n - 24)))) t) in
    omega arith)
    (split (size n) 141)

between : (x : Float) → lt least x ≡ true → lt x most ≡ true
    → (0x3b00_0000 ≤ to_bits binary32 x) × (to_bits binary32 x < 0x3f80_0000)
unfolding lt of_bits to_bits
between nan h g = absurd (true≢false (sym h))
between (inf true) h g = absurd (true≢false (sym h))
between (inf false) h g = absurd (true≢false (sym g))
between (fin true m e) h g = absurd (true≢false (sym h))
between (fin false m e) h g =
    let q : 1 * 1 * down e < m * up e * 512 = ltb-true _ _ h in
    let r : m * up e * 1 < 1 * 1 * down e = ltb-true _ _ g in
    let a : down e ≤ m * up e * 512 = omega arith in
    let b : m * up e < down e = omega arith in
    let c : 2 ^ 140 * down e ≤ m * up e * 2 ^ 149 =
    le_trans (le_of_eq (mul_comm (2 ^ 140) (down e)))
    (le_trans (mul-le-mul_right (2 ^ 140) a) (le_of_eq (mul_assoc (m * up e) 512 (2 ^ 140)))) in
    let d : m * up e * 2 ^ 149 < 2 ^ 149 * down e =
    lt_of_lt_of_le (mul-lt-mul_of_pos_right b (pow_pos 149)) (le_of_eq (mul_comm (down e) (2 ^ 149))) in (
      pattern-ge (m * up e * 2 ^ 149 / down e) ((le-div_iff_mul-le (down_pos e)).1 c),
      pattern_lt (m * up e * 2 ^ 149 / down e) ((div-lt_iff_lt-mul (down_pos e)).1 d),
    )

-- ---- a value put between them

-- what the code goes on with: the bits b of a number, between the two patterns, with the byte of x
pub record Within (x y : Float) (b : ℕ) : Type 0 where
  pub number : T (not (is_nan y))
  pub lower : 0x3b00_0000 ≤ b
  pub upper : b ≤ 0x3f80_0000
  pub same : byte_of (of_bits binary32 b) ≡ byte_of x

above-number : (x : Float) → lt least x ≡ true → T (not (is_nan x))
unfolding lt is_nan of_bits
above-number nan h = absurd (true≢false (sym h))
above-number (inf s) h = tt
above-number (fin s m e) h = tt

-- the ends themselves
least-within : (x : Float) → byte_of x ≡ 0 → Within x least (to_bits binary32 least)
unfolding byte_of is_nan of_bits to_bits
least-within x e = record { number = tt; lower = omega arith; upper = omega arith; same = sym e }

most-within : (x : Float) → byte_of x ≡ 255 → Within x most (to_bits binary32 most)
unfolding byte_of is_nan of_bits to_bits
most-within x e = record { number = tt; lower = omega arith; upper = omega arith; same = sym e }

module _ (x : Float) (f : T (fits binary32 x)) where
  below-most : lt least x ≡ true → (t : Bool) → lt x most ≡ t
      → Within x (choose t x most) (to_bits binary32 (choose t x most))
  below-most h true g =
      let q = between x h g in
      record {
        number = above-number x h;
        lower = q.0;
        upper = le_of_lt q.1;
        same = ap byte_of (of_bits-to_bits binary32 x f);
      }
  below-most h false g = most-within x (top_byte x h g)

  above-least : (t : Bool) → lt least x ≡ t
      → Within x (at_most (choose t x least)) (to_bits binary32 (at_most (choose t x least)))
  unfolding at_most lt of_bits
  above-least true h = below-most h (lt x most) refl
  above-least false h = least-within x (low_byte x h)

  pub within : Within x (at_most (at_least x)) (to_bits binary32 (at_most (at_least x)))
  unfolding at_least
  within = above-least (lt least x) refl

-- ---- the steps of the code, for a pattern b between the two

-- the 24 digits of the value, and how far they are shifted: it is digits b * 2 ^ shift b over 2 ^ 32
abbrev pub digits : ℕ → ℕ
digits b = 8388608 + b % 8388608

abbrev pub shift : ℕ → ℕ
shift b = b / 8388608 - 118

abbrev pub steps : ℕ → ℕ
steps b = (255 * digits b / 2 ^ 17 * 2 ^ shift b + 2 ^ 14) / 2 ^ 15

-- both shifted by k
shift-both : (a h k : ℕ) → (a * 2 ^ k + 2 ^ (h + k)) / 2 ^ (k + suc h) ≡ (a + 2 ^ h) / 2 ^ suc h
shift-both a h k =
    ap (λ (n : ℕ). n / 2 ^ (k + suc h))
    (ap (λ (n : ℕ). a * 2 ^ k + n) (pow-add 2 h k) ∙ sym (add-mul a (2 ^ h) (2 ^ k)))
    ∙ sym (shr-shr ((a + 2 ^ h) * 2 ^ k) k (suc h)) ∙ ap (λ (n : ℕ). n / 2 ^ suc h) (shl-shr (a + 2 ^ h) k)

-- the lower j digits do not count where what is added has none of them
drop-low : (a h j : ℕ) → (a + 2 ^ (h + j)) / 2 ^ (j + suc h) ≡ (a / 2 ^ j + 2 ^ h) / 2 ^ suc h
drop-low a h j =
    sym (shr-shr (a + 2 ^ (h + j)) j (suc h))
    ∙ ap (λ (n : ℕ). n / 2 ^ suc h)
    (ap (λ (n : ℕ). (a + n) / 2 ^ j) (pow-add 2 h j) ∙ add-mul-div_right a (2 ^ h) (pow_pos j))

-- (A * 2 ^ k + 2 ^ 31) / 2 ^ 32 = (A + 2 ^ (h + 17)) / 2 ^ (h + 18) = (A / 2 ^ 17 + 2 ^ h) / 2 ^ (h + 1)
early-drop : (A h k : ℕ) → h + k ≡ 14 → (A * 2 ^ k + 2 ^ 31) / 2 ^ 32 ≡ (A / 2 ^ 17 * 2 ^ k + 2 ^ 14) / 2 ^ 15
early-drop A h k e =
    ap₂ (λ (n m : ℕ). (A * 2 ^ k + 2 ^ n) / 2 ^ m) (let q : 31 ≡ h + 17 + k = omega arith in q)
    (let q : 32 ≡ k + suc (h + 17) = omega arith in q)
    ∙ shift-both A (h + 17) k
    ∙ ap (λ (n : ℕ). (A + 2 ^ (h + 17)) / 2 ^ n) (let q : suc (h + 17) ≡ 17 + suc h = omega arith in q)
    ∙ drop-low A h 17 ∙ sym (shift-both (A / 2 ^ 17) h k)
    ∙ ap₂ (λ (n m : ℕ). (A / 2 ^ 17 * 2 ^ k + 2 ^ n) / 2 ^ m) e (let q : k + suc h ≡ 15 = omega arith in q)

-- ---- what they give

by-fields : (b : ℕ)
    → of_bits binary32 b ≡ of_fields binary32 (leb 2147483648 b) (b % 2147483648 / 8388608) (b % 8388608)
unfolding of_bits
by-fields b = refl

plain-number : (t x : ℕ) → suc x < 255 → of_fields binary32 false (suc x) t ≡ odd 24 false (8388608 + t) x 149
unfolding of_fields
plain-number t x h = rw (ne_eqb (suc x) 255 (λ (e : suc x ≡ 255). let z : ⊥ = omega arith in z))

of-value : (x : Float) (a c : ℕ) → 0 < c → HasValue x false a c → byte_of x ≡ byte_of_fraction a c
unfolding byte_of
of-value nan a c p h = absurd h
of-value (inf s) a c p h = absurd h
of-value (fin true m e) a c p h = absurd (true≢false h.0)
of-value (fin false m e) a c p h = same-value (m * up e) (down e) a c (down_pos e) p h.1

module _ (b : ℕ) (lo : 0x3b00_0000 ≤ b) (hi : b < 0x3f80_0000) where
  -- the exponent that the format counts by: 2 ^ -149 has 0
  abbrev exponent : ℕ
  exponent = b / 8388608 - 1

  by_digits : of_bits binary32 b ≡ odd 24 false (digits b) exponent 149
  by_digits =
      let q : b % 2147483648 / 8388608 ≡ suc exponent = omega arith in
      by-fields b
      ∙ ap₂ (λ (s : Bool) (x : ℕ). of_fields binary32 s x (b % 8388608)) (lt-leb 2147483648 b (omega arith)) q
      ∙ plain-number (b % 8388608) exponent (omega arith)

  value : HasValue (of_bits binary32 b) false (digits b * 2 ^ exponent) (2 ^ 149)
  value =
      subst (λ (x : Float). HasValue x false (digits b * 2 ^ exponent) (2 ^ 149)) (sym by_digits)
      (odd_sign 24 false (digits b) exponent 149)

  -- the same value over 2 ^ 32
  cross : digits b * 2 ^ exponent * 2 ^ 32 ≡ digits b * 2 ^ shift b * 2 ^ 149
  cross =
      let q : exponent + 32 ≡ shift b + 149 = omega arith in
      mul_assoc (digits b) (2 ^ exponent) (2 ^ 32)
      ∙ ap (λ (z : ℕ). digits b * z)
      (sym (pow-add 2 exponent 32) ∙ ap (λ (z : ℕ). 2 ^ z) q ∙ pow-add 2 (shift b) 149)
      ∙ sym (mul_assoc (digits b) (2 ^ shift b) (2 ^ 149))

  below : digits b * 2 ^ shift b < 2 ^ 32
  below =
      lt_of_lt_of_le (shl_lt {a = digits b} 24 (shift b) (omega arith))
      (pow_mono (let q : 24 + shift b ≤ 32 = omega arith in q))

  halved : (2 * 255 * (digits b * 2 ^ shift b) + 2 ^ 32) / (2 * 2 ^ 32)
      ≡ (255 * digits b * 2 ^ shift b + 2 ^ 31) / 2 ^ 32
  halved = omega (arith, mul_assoc 255 (digits b) (2 ^ shift b))

  steps-below : byte_of (of_bits binary32 b) ≡ steps b
  steps-below =
      of-value (of_bits binary32 b) _ _ (pow_pos 149) value
      ∙ same-value _ _ (digits b * 2 ^ shift b) (2 ^ 32) (pow_pos 149) (pow_pos 32) cross
      ∙ below_one _ _ below ∙ halved ∙ early-drop (255 * digits b) (14 - shift b) (shift b) (omega arith)

-- at 1 itself they are worked out
pub steps-is : (b : ℕ) → 0x3b00_0000 ≤ b → b ≤ 0x3f80_0000 → byte_of (of_bits binary32 b) ≡ steps b
unfolding byte_of of_bits
steps-is b lo hi = ⊎_elim
    (λ (l : b < 0x3f80_0000). steps-below b lo l)
    (λ (g : 0x3f80_0000 ≤ b). let q : b ≡ 0x3f80_0000 = omega arith in rw q refl)
    (split b 0x3f80_0000)
