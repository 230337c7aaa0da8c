-- The columns of one value in a line of a glyph, as a mask. Two bits a pixel go by the line's two bytes, of which
-- what each of the 256 gives is computed. Assumes nothing.
use mathlib.Core.Path.{◌≡◌, refl, ◌∙◌}
use mathlib.Core.Bool.{Bool, true}
use Prim.Native.Nat.{ℕ, zero, suc, ◌+◌, ◌-◌, ◌*◌, ◌/◌, ◌%◌, ◌^◌, ◌≤◌, ◌<◌}
use native.Mathlib.Nat.{not-suc-le-zero, le_of_suc-le-suc, mod-lt}
use native.Mathlib.Omega.{arith}
use lib.Bits.{bit_and, bit_or, bit_xor}
use lib.Dec.{ltb, eqb}
use borrow.Author.Tests.{ltb-true, eqb-true}
use Rattle.lists.specs.Choice.{pick, both}
use Rattle.lists.proofs.Choice.{both_left, both_right}
use Rattle.draw.specs.Text.{glyph_columns, pixel_of}
use Rattle.draw.specs.Engine.Rows.{Marks}
use Rattle.text.specs.Engine.Fours.{column_of, Fours}
use Rattle.text.proofs.BitLaws.{every, every-at}

-- ---- the four pixels of a byte

-- as `four` works them out
abbrev same_of : ℕ → ℕ → ℕ
same_of byte k = bit_xor (bit_and (bit_or (bit_xor byte (k * 85)) (bit_xor byte (k * 85) / 2)) 85) 85

abbrev pairs_of : ℕ → ℕ → ℕ
pairs_of byte k = bit_and (bit_or (same_of byte k) (same_of byte k / 2)) 51

abbrev pub four_of : ℕ → ℕ → ℕ
four_of byte k = bit_and (bit_or (pairs_of byte k) (pairs_of byte k / 4)) 15

is_four : ℕ → ℕ → Bool
is_four byte k =
    both (ltb (four_of byte k) 16)
    (every 4 (λ j. eqb (column_of 1 (four_of byte k) j) (pick (eqb (column_of 2 byte j) k) 1 0)))

pub four_is : (byte k : ℕ) → byte < 256 → k < 4 → Fours byte k (four_of byte k)
unfolding every is_four
four_is byte k hb hk =
    let t : is_four byte k ≡ true =
    every-at 4 (is_four byte) (every-at 256 (λ b. every 4 (is_four b)) refl byte hb) k hk in
    record {
      few = ltb-true _ _ (both_left (ltb (four_of byte k) 16) _ t);
      at = λ j h. eqb-true _ _
          (every-at 4 (λ i. eqb (column_of 1 (four_of byte k) i) (pick (eqb (column_of 2 byte i) k) 1 0))
          (both_right (ltb (four_of byte k) 16) _ t) j h);
    }

-- ---- a line of one byte, and of two

-- of a number that is 0 or 1, whether it is 1
pick-one : (n : ℕ) → n < 2 → n ≡ pick (eqb n 1) 1 0
pick-one zero h = refl
pick-one (suc zero) h = refl
pick-one (suc (suc n)) h = absurd (not-suc-le-zero (le_of_suc-le-suc (le_of_suc-le-suc h)))

pub marks-one : (bits line k : ℕ) → bits ≡ 1 → line < 2 ^ (8 * bits) → 0 < k → k < 2 * bits → Marks bits line k line
unfolding pixel_of
marks-one bits line k e h lo hi =
    let q : k ≡ 1 = omega arith in
    rw (e, q) (record { byte = rw e at h; at = λ j _. pick-one _ (mod-lt (line / 2 ^ (1 * (7 - j))) (omega arith)) })

-- what is so of the eight columns is so of each
eight : (P : ℕ → Type 0) → P 0 → P 1 → P 2 → P 3 → P 4 → P 5 → P 6 → P 7 → (j : ℕ) → j < glyph_columns → P j
eight P a b c d e f g h zero lt = a
eight P a b c d e f g h (suc zero) lt = b
eight P a b c d e f g h (suc (suc zero)) lt = c
eight P a b c d e f g h (suc (suc (suc zero))) lt = d
eight P a b c d e f g h (suc (suc (suc (suc zero)))) lt = e
eight P a b c d e f g h (suc (suc (suc (suc (suc zero))))) lt = f
eight P a b c d e f g h (suc (suc (suc (suc (suc (suc zero)))))) lt = g
eight P a b c d e f g h (suc (suc (suc (suc (suc (suc (suc zero))))))) lt = h
eight P a b c d e f g h (suc (suc (suc (suc (suc (suc (suc (suc j)))))))) lt = absurd (let z : suc (suc (suc (suc (suc (suc (suc (suc j))))))) < 8 = lt in omega arith)

-- a column by the numbers that it is read from
column : (k : ℕ) {x y z w : ℕ} → x ≡ y → y ≡ pick (eqb z k) 1 0 → w ≡ z → x ≡ pick (eqb w k) 1 0
column k p q r = p ∙ q ∙ rw r

module _ (bits line k : ℕ) (ne : bits ≡ 1 → ⊥) (some : 0 < bits) (few : bits ≤ 2) (h : line < 2 ^ (8 * bits)) where
  two_bytes_lem : (bits ≡ 2) × (line < 65536)
  two_bytes_lem = let two : bits ≡ 2 = omega (arith, ne) in (two, rw two at h)

  -- the first four columns are the first byte's, the others the second's
  pub marks-two : (a b : ℕ) → Fours (line / 256) k a → Fours (line % 256) k b → Marks bits line k (16 * a + b)
  unfolding pixel_of
  marks-two a b fa fb =
      let h : line < 65536 = two_bytes_lem.1 in
      let low : b < 16 = fb.few in
      let high : a < 16 = fa.few in
      rw two_bytes_lem.0 (record {
        byte = omega arith;
        at = eight (λ j. pixel_of 1 (16 * a + b) j ≡ pick (eqb (pixel_of 2 line j) k) 1 0)
            (column k (omega arith) (fa.at 0 (omega arith)) (omega arith))
            (column k (omega arith) (fa.at 1 (omega arith)) (omega arith))
            (column k (omega arith) (fa.at 2 (omega arith)) (omega arith))
            (column k (omega arith) (fa.at 3 (omega arith)) (omega arith))
            (column k (omega arith) (fb.at 0 (omega arith)) (omega arith))
            (column k (omega arith) (fb.at 1 (omega arith)) (omega arith))
            (column k (omega arith) (fb.at 2 (omega arith)) (omega arith))
            (column k (omega arith) (fb.at 3 (omega arith)) (omega arith));
      })
