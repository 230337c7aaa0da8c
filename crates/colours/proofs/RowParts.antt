-- Pixels written to a row, as parts of it. Assumes nothing.
use mathlib.Core.Path.{◌≡◌, refl, sym, ap, ◌∙◌}
use mathlib.Core.List.{List, [], ◌∷◌}
use mathlib.Core.Logic.{⊎_elim}
use Prim.Native.Nat.{ℕ, ◌+◌, ◌-◌, ◌*◌, ◌/◌, ◌%◌, ◌≤◌, ◌<◌}
use native.Mathlib.Omega.{arith}
use lib.ListN.{length, get_or, set}
use Rattle.lists.proofs.Choice.{split}
use Rattle.sixteen.specs.Engine.Lanes.{Part, Reach, Front, Lanes, anew, Bytes, SameIs, HalfIs, store_byte}
use Rattle.colours.specs.Rows.{pixel_byte, word_byte, colour_byte, solid_byte}
use Rattle.colours.specs.Engine.Indexes.{Same, words_byte}
use Rattle.sixteen.proofs.PartLaws.{part_none, part-set, part_then, part-cong, part-to, reach-turn}
use Rattle.sixteen.proofs.PartLaws.{blocks-turn}
use Rattle.colours.proofs.RowLaws.{by_place, pixel_byte-at}
use Rattle.colours.proofs.PixelLaws.{halves-byte, word_byte-is}

-- ---- one pixel over and over

module _ (c0 c1 c2 c3 at : ℕ) (h : at % 4 ≡ 0) where
  pub fill-block : {l l₀ p w : List ℕ} {c : ℕ} → Bytes c c0 c1 c2 c3 → Lanes p 16 (SameIs c) → Lanes w 32 (HalfIs p)
      → Part l l₀ (anew (store_byte w at)) at (at + 64) → Part l l₀ (anew (pixel_byte c0 c1 c2 c3)) at (at + 64)
  fill-block {l} {l₀} {p} {w} {c} b ep ew pt = part-cong pt (λ i h1 h2.
      halves-byte p w at h ew i h1 h2
      ∙ ap (λ (v : ℕ). word_byte v i) (ep.lane ((i - at) / 4) (omega arith)).is
      ∙ word_byte-is c c0 c1 c2 c3 i b)

pub word-block : (c at : ℕ) → at % 4 ≡ 0 → {l l₀ p w : List ℕ} → Lanes p 16 (SameIs c) → Lanes w 32 (HalfIs p)
    → Part l l₀ (anew (store_byte w at)) at (at + 64)
    → Part l l₀ (anew (word_byte c)) at (at + 64)
word-block c at h ep ew pt = fill-block _ _ _ _ at h (record { p0 = refl; p1 = refl; p2 = refl; p3 = refl }) ep ew pt

pub fill-turn : {r l l₀ p w : List ℕ} (c0 c1 c2 : ℕ) {c k : ℕ} → Front l l₀ (anew (solid_byte c0 c1 c2)) (64 * k)
    → k < length l₀ / 64 → Bytes c c0 c1 c2 255 → Lanes p 16 (SameIs c) → Lanes w 32 (HalfIs p)
    → Part r l (anew (store_byte w (64 * k))) (64 * k) (64 * k + 64)
    → Front r l₀ (anew (solid_byte c0 c1 c2)) (64 * (k + 1))
fill-turn c0 c1 c2 {k = k} p h b ep ew q =
    blocks-turn p refl h (fill-block c0 c1 c2 255 (64 * k) p.border b ep ew q)

pub put4-part : (l : List ℕ) (c0 c1 c2 c3 i : ℕ) → i % 4 ≡ 0 → i + 4 ≤ length l
    → Part (set (set (set (set l i c0) (i + 1) c1) (i + 2) c2) (i + 3) c3) l (anew (pixel_byte c0 c1 c2 c3)) i (i + 4)
put4-part l c0 c1 c2 c3 i h b =
    part-set (i + 3) c3
    (part-set (i + 2) c2
    (part-set (i + 1) c1
    (part-set i c0 (part_none l (anew (pixel_byte c0 c1 c2 c3)) i i (omega arith)) (omega arith) refl refl (omega arith)
    (sym (pixel_byte-at c0 c1 c2 c3 i 0 h)))
    (omega arith) refl refl (omega arith) (sym (pixel_byte-at c0 c1 c2 c3 (i + 1) 1 (omega arith))))
    (omega arith) (omega arith) refl (omega arith) (sym (pixel_byte-at c0 c1 c2 c3 (i + 2) 2 (omega arith))))
    (omega arith) (omega arith) (omega arith) (omega arith) (sym (pixel_byte-at c0 c1 c2 c3 (i + 3) 3 (omega arith)))

pub word-part : {l l₀ : List ℕ} {a b : ℕ} (c b0 b1 b2 b3 : ℕ) → Part l l₀ (anew (pixel_byte b0 b1 b2 b3)) a b
    → b0 ≡ c % 256 → b1 ≡ c / 256 % 256 → b2 ≡ c / 65536 % 256 → b3 ≡ c / 16777216
    → Part l l₀ (anew (word_byte c)) a b
word-part c b0 b1 b2 b3 p e0 e1 e2 e3 = rw (← e0, ← e1, ← e2, ← e3) p

-- ---- bytes that are one

same_then : {s : List ℕ} {at n m c : ℕ} → Same s at n c → Same s (at + n) m c → Same s at (n + m) c
same_then {s} {at} {n} {m} {c} a b = record {
  all = λ k lt. ⊎_elim
      (λ (lo : k < n). a.all k lo)
      (λ (ge : n ≤ k). ap (λ (j : ℕ). get_or s j 0) (let z : at + k ≡ at + n + (k - n) = omega arith in z)
      ∙ b.all (k - n) (omega arith))
      (split k n);
}

-- ---- words, and a line of indexes

module _ (c0 c1 c2 c3 at : ℕ) where
  one_word : (k c : ℕ) {r l : List ℕ} {a b : ℕ} → Part r l (anew (word_byte c)) a b → a ≡ at + 4 * k → b ≡ a + 4
      → c ≡ get_or (c0 ∷ c1 ∷ c2 ∷ c3 ∷ []) k 0 → Part r l (anew (words_byte c0 c1 c2 c3 at)) a b
  unfolding words_byte
  one_word k c q ea eb e = part-cong q (λ i h1 h2. let d : k ≡ (i - at) / 4 = omega arith in
      ap (λ (n : ℕ). word_byte n i) (e ∙ ap (λ (n : ℕ). get_or (c0 ∷ c1 ∷ c2 ∷ c3 ∷ []) n 0) d))

  word_more : (k c : ℕ) {r l l₀ : List ℕ} {a b : ℕ} → Part l l₀ (anew (words_byte c0 c1 c2 c3 at)) at b
      → Part r l (anew (word_byte c)) a (a + 4) → a ≡ at + 4 * k → b ≡ a → c ≡ get_or (c0 ∷ c1 ∷ c2 ∷ c3 ∷ []) k 0
      → Part r l₀ (anew (words_byte c0 c1 c2 c3 at)) at (a + 4)
  word_more k c p q ea e d = part_then (part-to p e) (one_word k c q ea refl d) (omega arith) (omega arith)

  pub words-part : {l l1 l2 l3 l4 : List ℕ} → Part l1 l (anew (word_byte c0)) at (at + 4)
      → Part l2 l1 (anew (word_byte c1)) (at + 4) (at + 4 + 4)
      → Part l3 l2 (anew (word_byte c2)) (at + 8) (at + 8 + 4) → Part l4 l3 (anew (word_byte c3)) (at + 12) (at + 12 + 4)
      → Part l4 l (anew (words_byte c0 c1 c2 c3 at)) at (at + 16)
  words-part p0 p1 p2 p3 =
      let q1 = word_more 1 c1 (one_word 0 c0 p0 (omega arith) refl refl) p1 (omega arith) refl refl in
      let q2 = word_more 2 c2 q1 p2 (omega arith) (omega arith) refl in
      part-to (word_more 3 c3 q2 p3 (omega arith) (omega arith) refl) (omega arith)

-- a block of one index
pub colour-same : (line palette : List ℕ) (j x : ℕ) {r l : List ℕ}
    → Part r l (anew (word_byte (get_or palette x 0))) (4 * j) (4 * j + 64) → x ≡ get_or line j 0 % 16
    → Same line j 16 (get_or line j 0) → Part r l (anew (colour_byte line palette)) (4 * j) (4 * (j + 16))
unfolding colour_byte
colour-same line palette j x q ex e =
    part-to (part-cong q (λ i h1 h2. ap (λ (n : ℕ). word_byte (get_or palette n 0) i)
    (ex ∙ ap (λ (n : ℕ). n % 16)
    (sym (e.all (i / 4 - j) (omega arith))
    ∙ ap (λ (n : ℕ). get_or line n 0) (let z : j + (i / 4 - j) ≡ i / 4 = omega arith in z)))))
    (omega arith)

module _ (line palette : List ℕ) {l₀ : List ℕ} {b : ℕ} where
  -- a pixel more
  pub colour-turn : (j x : ℕ) {r l : List ℕ} → Reach l l₀ (anew (colour_byte line palette)) b (4 * j)
      → length l₀ ≡ 4 * length line → j < length line
      → Part r l (anew (word_byte (get_or palette x 0))) (4 * j) (4 * j + 4) → x ≡ get_or line j 0 % 16
      → Reach r l₀ (anew (colour_byte line palette)) b (4 * (j + 1))
  unfolding colour_byte
  colour-turn j x p e h q ex =
      reach-turn p (part-to (part-cong q (λ i h1 h2. let d : j ≡ i / 4 = omega arith in
      ap (λ (n : ℕ). word_byte (get_or palette n 0) i) (ex ∙ ap (λ (n : ℕ). get_or line n 0 % 16) d))) (omega arith))
      (omega arith) (omega arith) (omega arith)

  -- four at once: the word at m is the colour of the index j + m
  pub colour-four : (j x0 x1 x2 x3 : ℕ) {r l : List ℕ} → Part l l₀ (anew (colour_byte line palette)) b (4 * j)
      → b ≤ 4 * j
      → Part r l (anew (words_byte (get_or palette x0 0) (get_or palette x1 0) (get_or palette x2 0) (get_or palette x3 0)
      (4 * j))) (4 * j) (4 * j + 16)
      → x0 ≡ get_or line j 0 % 16 → x1 ≡ get_or line (j + 1) 0 % 16 → x2 ≡ get_or line (j + 2) 0 % 16
      → x3 ≡ get_or line (j + 3) 0 % 16
      → Part r l₀ (anew (colour_byte line palette)) b (4 * (j + 4))
  unfolding colour_byte words_byte
  colour-four j x0 x1 x2 x3 p bj q e0 e1 e2 e3 =
      part-to (part_then p (part-cong q (λ i h1 h2. ap (λ (c : ℕ). word_byte c i)
      (colour ((i - 4 * j) / 4) (omega arith) ∙ ap word (let z : j + (i - 4 * j) / 4 ≡ i / 4 = omega arith in z)))) bj
      (omega arith)) (omega arith)
    where
      word : ℕ → ℕ
      word k = get_or palette (get_or line k 0 % 16) 0

      colours : List ℕ
      colours = get_or palette x0 0 ∷ get_or palette x1 0 ∷ get_or palette x2 0 ∷ get_or palette x3 0 ∷ []

      colour : (m : ℕ) → m < 4 → get_or colours m 0 ≡ word (j + m)
      colour = by_place (λ (m : ℕ). get_or colours m 0 ≡ word (j + m))
          (ap (λ (x : ℕ). get_or palette x 0) e0 ∙ ap word (let z : j ≡ j + 0 = omega arith in z))
          (ap (λ (x : ℕ). get_or palette x 0) e1) (ap (λ (x : ℕ). get_or palette x 0) e2)
          (ap (λ (x : ℕ). get_or palette x 0) e3)
