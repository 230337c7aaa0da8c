-- The laws of text said of whole lines: a worker's rule and the tests that the code has passed give the
-- rule of the definition. Assumes nothing.
use mathlib.Core.Path.{◌≡◌, refl, sym, ap, ◌∙◌}
use mathlib.Core.Logic.{⊎_elim}
use mathlib.Core.List.{List}
use Prim.Native.Nat.{ℕ, ◌+◌, ◌-◌, ◌*◌, ◌/◌, ◌%◌, ◌^◌, ◌≤◌, ◌<◌}
use native.Mathlib.Nat.{zero-div, zero-mod, mod-lt}
use native.Mathlib.Omega.{arith}
use lib.ListN.{length}
use lib.Pow.{pow_pos}
use Rattle.lists.specs.Tab.{each}
use Rattle.lists.specs.Zero.{zero_from}
use Rattle.lists.proofs.Zero.{zero-stops, zero-ends, zero_from-ge}
use Rattle.lists.proofs.Choice.{split}
use Rattle.lists.proofs.Tab.{is-each, each-cong, each-id, each_turn, each-then}
use Rattle.tables.specs.Geometry as geometry
use Rattle.tables.specs.Geometry.{colours, string_len, glyph_rows}
use Rattle.draw.specs.Instruction.{word_of, scale_of}
use Rattle.draw.specs.Text.{glyph_columns, character, characters_of, glyph_row, pixel_of, inked, line_ink, row_after, string_ink}
use Rattle.draw.specs.Text.{string_after, text_of}
use Rattle.draw.specs.Engine.Rows.{run_after, mask_ink, Marks}
use Rattle.text.proofs.BitLaws.{beside, run_from, run_to, pixel_of-run}
use Rattle.text.proofs.TextLaws.{row-left, row-none, row-id, row-cong, row-then, row-run, row_more, mask_ink-none}
use Rattle.text.proofs.TextLaws.{mask_ink-run, values_ink, values-none, values-all, values-more, string_ink-at}
use Rattle.text.proofs.TextLaws.{text-above, text-below, text-number, text-row}

-- ---- a row of pixels

module _ (z : ℕ) (pos : 0 < z) (x : ℕ) (ink : ℕ → ℕ → ℕ) (l : List ℕ) where
  pub row-line-none : l ≡ each (row_after ink 0 z x) l
  row-line-none = each-id _ l (row-none z pos x ink)

  -- a row that leaves each of its pixels
  row-line-id : (n : ℕ) → ((j old : ℕ) → j < n → ink j old ≡ old) → l ≡ each (row_after ink n z x) l
  row-line-id n same = each-id _ l (row-id z pos x ink n same)

  -- a row that begins at the line's end, or past it
  pub row-line-past : (n : ℕ) → length l ≤ x → l ≡ each (row_after ink n z x) l
  row-line-past n h = is-each l l _ refl (λ u b. sym (row-left z pos x ink n u _ (omega arith)))

  pub row-line-more : (a b at : ℕ) (q : ℕ → ℕ → ℕ) {l' l'' : List ℕ} → at ≡ x + a * z
      → ((j old : ℕ) → j < b → q j old ≡ ink (a + j) old)
      → l' ≡ each (row_after ink a z x) l → l'' ≡ each (row_after q b z at) l'
      → l'' ≡ each (row_after ink (a + b) z x) l
  row-line-more a b at q ea same e e' = each-then _ _ _ l e e' (row_more z pos x a b at ink q ea same)

-- ---- a mask: it is drawn once no bits are left; the lowest run is drawn, and the bits beside it are left

pub mask_done : (z mask x colour : ℕ) (l : List ℕ) {w : List ℕ} → 0 < z → mask ≡ 0
    → each (row_after (mask_ink mask colour) glyph_columns z x) l ≡ w → l ≡ w
unfolding pixel_of
mask_done z mask x colour l pos none e =
    row-line-id z pos x (mask_ink mask colour) l glyph_columns
    (λ j old _. mask_ink-none mask colour j old (rw (none, zero-div (2 ^ (1 * (glyph_columns - 1 - j)))) refl)) ∙ e

pub mask-turn : (z mask x colour : ℕ) (l : List ℕ) {l' w : List ℕ} → 0 < z → (mask ≡ 0 → ⊥) → mask < 256
    → l' ≡ each (run_after (x + run_from mask * z) (x + run_to mask * z) colour) l
    → each (row_after (mask_ink mask colour) glyph_columns z x) l ≡ w
    → each (row_after (mask_ink (beside mask) colour) glyph_columns z x) l' ≡ w
mask-turn z mask x colour l pos some h e =
    each_turn _ _ _ l e
    (λ u old. row-then z pos x (mask_ink mask colour) (run_after (run_from mask) (run_to mask) colour)
    (mask_ink (beside mask) colour) glyph_columns
    (λ j p lt. mask_ink-run mask (beside mask) colour (run_from mask) (run_to mask) j p (pixel_of-run mask some h j lt)) u old
    ∙ ap (row_after (mask_ink (beside mask) colour) glyph_columns z x u)
    (row-run z pos x colour glyph_columns (run_from mask) (run_to mask) (omega arith) u old))

-- ---- a glyph's line, value by value

values-two : (bits : ℕ) → 0 < bits → bits ≤ 2 → 2 ^ bits ≡ 2 * bits
values-two bits some few = ⊎_elim
    (λ (l : bits < 2). let q : bits ≡ 1 = omega arith in rw q)
    (λ (g : 2 ≤ bits). let q : bits ≡ 2 = omega arith in rw q)
    (split bits 2)

module _ (bits row colour z x : ℕ) (pos : 0 < z) (l : List ℕ) where
  -- a blank one
  pub glyph-blank : row ≡ 0 → l ≡ each (row_after (line_ink bits row colour) glyph_columns z x) l
  unfolding line_ink inked pixel_of
  glyph-blank e =
      row-line-id z pos x (line_ink bits row colour) l glyph_columns
      (λ j old _. rw (e, zero-div (2 ^ (bits * (glyph_columns - 1 - j))), zero-mod (2 ^ bits)) refl)

  pub glyph-none : l ≡ each (row_after (values_ink bits row colour 0) glyph_columns z x) l
  glyph-none = row-line-id z pos x _ l glyph_columns (λ j old _. values-none bits row colour j old)

  pub glyph-more : (value mask shade : ℕ) {l' l'' : List ℕ} → Marks bits row (value + 1) mask
      → shade ≡ (colour + value) % colours
      → l' ≡ each (row_after (values_ink bits row colour value) glyph_columns z x) l
      → l'' ≡ each (row_after (mask_ink mask shade) glyph_columns z x) l'
      → l'' ≡ each (row_after (values_ink bits row colour (value + 1)) glyph_columns z x) l
  glyph-more value mask shade m e e₁ e₂ =
      each-then _ _ _ l e₁ e₂
      (row-then z pos x _ _ _ glyph_columns (λ j old h. values-more bits row colour value mask shade j old h m e))

  -- as many values as two or four, but for 0
  pub glyph-all : (value : ℕ) {l' : List ℕ} → 0 < bits → bits ≤ 2 → 2 * bits - 1 ≤ value
      → l' ≡ each (row_after (values_ink bits row colour value) glyph_columns z x) l
      → l' ≡ each (row_after (line_ink bits row colour) glyph_columns z x) l
  unfolding pixel_of
  glyph-all value some few h e =
      let two : 2 ^ bits ≡ 2 * bits = values-two bits some few in
      e ∙ each-cong _ _ l
      (row-cong z pos x _ _ glyph_columns
      (λ j old _. values-all bits row colour value j old
      (omega (arith, mod-lt (row / 2 ^ (bits * (glyph_columns - 1 - j))) (pow_pos bits)))))

-- ---- a string

pub string-more : (bits : ℕ) (strings font : List ℕ) (n row z x colour i at c line : ℕ) (l : List ℕ) {l' l'' : List ℕ}
    → 0 < z → at ≡ x + glyph_columns * i * z
    → c ≡ character strings n i → line ≡ glyph_row bits font c row
    → l' ≡ each (row_after (string_ink bits strings font n row colour) (glyph_columns * i) z x) l
    → l'' ≡ each (row_after (line_ink bits line colour) glyph_columns z at) l'
    → l'' ≡ each (row_after (string_ink bits strings font n row colour) (glyph_columns * (i + 1)) z x) l
string-more bits strings font n row z x colour i at c line l pos ea ec eb e e' =
    let q : glyph_columns * (i + 1) ≡ glyph_columns * i + glyph_columns = omega arith in
    rw q (row-line-more z pos x (string_ink bits strings font n row colour) l (glyph_columns * i) glyph_columns at
    (line_ink bits line colour) ea
    (λ j old h. rw (eb, ec) (string_ink-at bits strings font n row colour i j old h)) e e')

-- where the loop over the characters ends: at the line's end, at a zero byte, or after them all
module _ (bits : ℕ) (strings font : List ℕ) (n row z x colour i : ℕ) (l : List ℕ) {l' : List ℕ}
    (left : zero_from (string_len - i) (character strings n) i ≡ characters_of strings n)
    (e : l' ≡ each (row_after (string_ink bits strings font n row colour) (glyph_columns * i) z x) l) where
  pub string-past : (at : ℕ) → 0 < z → at ≡ x + glyph_columns * i * z → length l' ≤ at
      → l' ≡ each (string_after bits strings font n row z x colour) l
  string-past at pos ea h =
      let p : ℕ → ℕ → ℕ = string_ink bits strings font n row colour in
      let b : ℕ = glyph_columns * (characters_of strings n - i) in
      let q : glyph_columns * i + b
      ≡ glyph_columns * characters_of strings n = omega
      (arith, zero_from-ge (string_len - i) (character strings n) i) in
      rw q at (row-line-more z pos x p l (glyph_columns * i) b at (λ j. p (glyph_columns * i + j)) ea
      (λ j old _. refl) e
      (row-line-past z pos at (λ j. p (glyph_columns * i + j)) l' b h))

  pub string-stops : i < string_len → character strings n i ≡ 0 → l' ≡ each (string_after bits strings font n row z x colour) l
  string-stops h c = rw (sym (zero-stops string_len (character strings n) i h c) ∙ left) at e

  pub string-ends : string_len ≤ i → l' ≡ each (string_after bits strings font n row z x colour) l
  string-ends h = rw (sym (zero-ends string_len (character strings n) i h) ∙ left) at e

-- ---- a text

module _ (bits : ℕ) (ins strings font : List ℕ) (k v w2 : ℕ) (l : List ℕ) (e2 : w2 ≡ word_of ins k 2) where
  pub text-line-above : v < w2 % 4096 → l ≡ each (text_of bits ins strings font k v) l
  unfolding text_of
  text-line-above h = each-id _ l (λ u old. text-above bits strings font _ _ _ _ _ v (rw e2 at h) u old)

  module _ (z : ℕ) (ez : z ≡ scale_of (w2 / 1073741824)) (pos : 0 < z) where
    pub text-line-below : w2 % 4096 + glyph_rows * z ≤ v → l ≡ each (text_of bits ins strings font k v) l
    unfolding text_of
    text-line-below h =
        each-id _ l (λ u old. text-below bits strings font _ _ _ _ _ v (rw (ez, e2) at pos) (rw (ez, e2) at h) u old)

    pub text-line-number : (w1 : ℕ) → w1 ≡ word_of ins k 1 → geometry.strings ≤ w1 % 256
        → l ≡ each (text_of bits ins strings font k v) l
    unfolding text_of
    text-line-number w1 e1 h = each-id _ l (λ u old. text-number bits strings font _ _ _ _ _ v (rw e1 at h) u old)

    pub text-line : (w0 w1 w3 : ℕ) {l' : List ℕ} → w0 ≡ word_of ins k 0 → w1 ≡ word_of ins k 1 → w3 ≡ word_of ins k 3
        → w2 % 4096 ≤ v → v < w2 % 4096 + glyph_rows * z → w1 % 256 < geometry.strings
        → l' ≡ each
        (string_after bits strings font (w1 % 256) ((v - w2 % 4096) / z) z (w0 % 4096) (w3 / 256 % 256 % colours)) l
        → l' ≡ each (text_of bits ins strings font k v) l
    unfolding text_of
    text-line w0 w1 w3 e0 e1 e3 a b c e =
        e ∙ each-cong _ _ l
        (λ u old. text-row bits strings font (w1 % 256) z (w0 % 4096) (w2 % 4096)
        (w3 / 256 % 256 % colours) v pos a b c u old
        ∙ rw (ez, e0, e1, e2, e3))
