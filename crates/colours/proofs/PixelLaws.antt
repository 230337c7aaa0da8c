-- Laws of pixels as words: what bytes they hold, joined, halved and stored. Assumes nothing.
use mathlib.Core.Path.{◌≡◌, refl, sym, ap, ◌∙◌}
use mathlib.Core.Logic.{⊎_elim}
use mathlib.Core.List.{List, [], ◌∷◌}
use Prim.Native.Nat.{ℕ, ◌+◌, ◌-◌, ◌*◌, ◌/◌, ◌%◌, ◌≤◌, ◌<◌}
use native.Mathlib.Omega.{arith}
use lib.ListN.{get_or}
use Rattle.lists.proofs.Choice.{parity}
use Rattle.lists.proofs.Digits.{mod-of}
use Rattle.sixteen.specs.Engine.Lanes.{Lanes, by_parity, Bytes, PixelIs, HalfIs, store_byte}
use Rattle.colours.specs.Rows.{pixel_byte, word_byte, PaletteOf}
use Rattle.sixteen.proofs.LaneLaws.{by_parity-even, by_parity-odd, store_byte-even, store_byte-odd, by-words}
use Rattle.colours.proofs.RowLaws.{by_place, pixel_byte-at}

-- ---- a word's bytes

pub word_byte-is : (v b0 b1 b2 b3 i : ℕ) → Bytes v b0 b1 b2 b3 → word_byte v i ≡ pixel_byte b0 b1 b2 b3 i
word_byte-is v b0 b1 b2 b3 i b = rw (b.p0, b.p1, b.p2, b.p3)

-- the four values of f from a multiple of four on
pub pixel_byte-is : (f : ℕ → ℕ) (at i : ℕ) → at % 4 ≡ 0 → at ≤ i → i < at + 4
    → pixel_byte (f at) (f (at + 1)) (f (at + 2)) (f (at + 3)) i ≡ f i
pixel_byte-is f at i h h1 h2 =
    pixel_byte-at _ _ _ _ i (i - at) (omega arith)
    ∙ by_place (λ (r : ℕ). get_or (f at ∷ f (at + 1) ∷ f (at + 2) ∷ f (at + 3) ∷ []) r 0 ≡ f (at + r))
    (ap f (let q : at ≡ at + 0 = omega arith in q)) refl refl refl (i - at) (omega arith)
    ∙ ap f (let q : at + (i - at) ≡ i = omega arith in q)

pub palette-is : {r : List ℕ} (s : List ℕ) → Lanes r 16 (PixelIs s 0) → PaletteOf r s
palette-is {r} s e = record {
  bytes = λ i lt. word_byte-is _ _ _ _ _ i (e.lane (i / 4) (omega arith)).bytes
      ∙ pixel_byte-is (λ (n : ℕ). get_or s n 0) (0 + 4 * (i / 4)) i (omega arith) (omega arith) (omega arith);
}

-- the join of two pixels has the channels of the one and the alpha of the other
pub join-bytes : (p q w b0 b1 b2 b3 c0 c1 c2 c3 : ℕ) → w ≡ p % 16777216 + q / 16777216 * 16777216 → Bytes p b0 b1 b2 b3
    → Bytes q c0 c1 c2 c3 → Bytes w b0 b1 b2 c3
join-bytes p q w b0 b1 b2 b3 c0 c1 c2 c3 e b c = record {
  p0 = (let z : w % 256 ≡ p % 256 = omega arith in z) ∙ b.p0;
  p1 = (let z : w / 256 % 256 ≡ p / 256 % 256 = omega arith in z) ∙ b.p1;
  p2 = (let z : w / 65536 % 256 ≡ p / 65536 % 256 = omega arith in z) ∙ b.p2;
  p3 = (let z : w / 16777216 ≡ q / 16777216 = omega arith in z) ∙ c.p3;
}

-- ---- a block

-- halves of the pixels p, stored at a multiple of four, are those pixels' bytes
module _ (p hw : List ℕ) (at : ℕ) (h : at % 4 ≡ 0) (eh : Lanes hw 32 (HalfIs p)) where
  digit-even : (c k : ℕ) → by_parity k (c % 65536) (c / 65536) % 256 ≡ word_byte c (at + 2 * k)
  digit-even c k = ⊎_elim
      (λ (z : k % 2 ≡ 0). ap (λ (n : ℕ). n % 256) (by_parity-even k (c % 65536) (c / 65536) z)
      ∙ (let q : c % 65536 % 256 ≡ c % 256 = omega arith in q)
      ∙ sym (pixel_byte-at _ _ _ _ (at + 2 * k) 0
      (mod-of (at + 2 * k) 4 (at / 4 + k / 2) 0 (omega arith) (omega arith))))
      (λ (z : k % 2 ≡ 1). ap (λ (n : ℕ). n % 256) (by_parity-odd k (c % 65536) (c / 65536) z)
      ∙ sym (pixel_byte-at _ _ _ _ (at + 2 * k) 2
      (mod-of (at + 2 * k) 4 (at / 4 + k / 2) 2 (omega arith) (omega arith))))
      (parity k)

  digit-odd : (c k : ℕ) → by_parity k (c % 65536) (c / 65536) / 256 ≡ word_byte c (at + 2 * k + 1)
  digit-odd c k = ⊎_elim
      (λ (z : k % 2 ≡ 0). ap (λ (n : ℕ). n / 256) (by_parity-even k (c % 65536) (c / 65536) z)
      ∙ (let q : c % 65536 / 256 ≡ c / 256 % 256 = omega arith in q)
      ∙ sym (pixel_byte-at _ _ _ _ (at + 2 * k + 1) 1
      (mod-of (at + 2 * k + 1) 4 (at / 4 + k / 2) 1 (omega arith) (omega arith))))
      (λ (z : k % 2 ≡ 1). ap (λ (n : ℕ). n / 256) (by_parity-odd k (c % 65536) (c / 65536) z)
      ∙ (let q : c / 65536 / 256 ≡ c / 16777216 = omega arith in q)
      ∙ sym (pixel_byte-at _ _ _ _ (at + 2 * k + 1) 3
      (mod-of (at + 2 * k + 1) 4 (at / 4 + k / 2) 3 (omega arith) (omega arith))))
      (parity k)

  pub halves-byte : (i : ℕ) → at ≤ i → i < at + 64 → store_byte hw at i ≡ word_byte (get_or p ((i - at) / 4) 0) i
  halves-byte = by-words (λ (i : ℕ). store_byte hw at i ≡ word_byte (get_or p ((i - at) / 4) 0) i) at
      (λ k lt. let q : (at + 2 * k - at) / 4 ≡ k / 2 = omega arith in
      rw q (store_byte-even hw at k ∙ ap (λ (n : ℕ). n % 256) (eh.lane k lt).is ∙ digit-even (get_or p (k / 2) 0) k))
      (λ k lt. let q : (at + 2 * k + 1 - at) / 4 ≡ k / 2 = omega arith in
      rw q (store_byte-odd hw at k ∙ ap (λ (n : ℕ). n / 256) (eh.lane k lt).is ∙ digit-odd (get_or p (k / 2) 0) k))
