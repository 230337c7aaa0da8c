-- Laws of text: a row of pixels is drawn part by part from the left, or in one way and then in another; a row
-- beside the text is left. Assumes nothing.
use mathlib.Core.Path.{◌≡◌, refl, sym, ap, ◌∙◌}
use mathlib.Core.Logic.{⊎_elim}
use mathlib.Core.List.{List}
use Prim.Native.Nat.{ℕ, ◌+◌, ◌-◌, ◌*◌, ◌/◌, ◌%◌, ◌^◌, ◌≤◌, ◌<◌}
use native.Mathlib.Nat.{add-mul, mul-le-mul_right, div-lt_iff_lt-mul, le-div_iff_mul-le, add-mul-div_right}
use native.Mathlib.Omega.{arith}
use lib.ListN.{get_or}
use lib.Pow.{pow_pos}
use lib.Dec.{leb, eqb}
use borrow.Author.Tests.{le-leb, lt-leb, lt-ltb, le-ltb, eq-eqb, ne_eqb}
use Rattle.lists.specs.Choice.{pick}
use Rattle.lists.proofs.Choice.{split, same_or, both-none, pick-keeps}
use Rattle.tables.specs.Geometry as geometry
use Rattle.tables.specs.Geometry.{colours, glyph_rows}
use Rattle.draw.specs.Text.{glyph_columns, first_character, last_character, character, bytes_from, glyph_row, pixel_of, inked}
use Rattle.draw.specs.Text.{line_ink, row_after, string_ink, string_after, text_after}
use Rattle.draw.specs.Engine.Rows.{run_after, mask_ink, Marks}
use Rattle.draw.proofs.RunLaws.{run_in, run-left, run-right}

-- ---- a row of pixels

module _ (z : ℕ) (pos : 0 < z) (x : ℕ) where
  pub row-left : (ink : ℕ → ℕ → ℕ) (n u old : ℕ) → u < x → row_after ink n z x u old ≡ old
  unfolding row_after
  row-left ink n u old h = simp (lt-leb x u h)

  row-right : (ink : ℕ → ℕ → ℕ) (n u old : ℕ) → x + n * z ≤ u → row_after ink n z x u old ≡ old
  unfolding row_after
  row-right ink n u old h =
      let q : n ≤ (u - x) / z = (le-div_iff_mul-le {k = z} pos).1 (omega arith) in
      simp (le-ltb ((u - x) / z) n q, both-none)

  row_in : (ink : ℕ → ℕ → ℕ) (n u old : ℕ) → x ≤ u → u < x + n * z
      → row_after ink n z x u old ≡ ink ((u - x) / z) old
  unfolding row_after
  row_in ink n u old a b =
      let q : (u - x) / z < n = (div-lt_iff_lt-mul {k = z} pos).1 (omega arith) in
      simp (le-leb x u a, lt-ltb ((u - x) / z) n q)

  pub row-none : (ink : ℕ → ℕ → ℕ) (u old : ℕ) → row_after ink 0 z x u old ≡ old
  row-none ink u old = ⊎_elim (row-left ink 0 u old) (λ (g : x ≤ u). row-right ink 0 u old (omega arith)) (split u x)

  -- where a pixel lies: left of the row, in it and then in its column, or right of it
  row-where : (P : ℕ → ℕ → Type 0) (ink : ℕ → ℕ → ℕ) (n u old : ℕ) → (u < x → P u old) → (x + n * z ≤ u → P u old)
      → (x ≤ u → u < x + n * z → (u - x) / z < n → P u old) → P u old
  row-where P ink n u old left right inside = ⊎_elim left
      (λ (g : x ≤ u). ⊎_elim (λ (l : u < x + n * z). inside g l ((div-lt_iff_lt-mul {k = z} pos).1 (omega arith))) right
      (split u (x + n * z)))
      (split u x)

  -- a row that leaves each of its pixels
  pub row-id : (ink : ℕ → ℕ → ℕ) (n : ℕ) → ((j old : ℕ) → j < n → ink j old ≡ old) → (u old : ℕ)
      → row_after ink n z x u old ≡ old
  row-id ink n same u old =
      row-where (λ u old. row_after ink n z x u old ≡ old) ink n u old (row-left ink n u old) (row-right ink n u old)
      (λ g l j. row_in ink n u old g l ∙ same _ old j)

  -- two rows that make the same of each pixel
  pub row-cong : (ink f : ℕ → ℕ → ℕ) (n : ℕ) → ((j old : ℕ) → j < n → ink j old ≡ f j old) → (u old : ℕ)
      → row_after ink n z x u old ≡ row_after f n z x u old
  row-cong ink f n same u old =
      row-where (λ u old. row_after ink n z x u old ≡ row_after f n z x u old) ink n u old
      (λ l. row-left ink n u old l ∙ sym (row-left f n u old l))
      (λ r. row-right ink n u old r ∙ sym (row-right f n u old r))
      (λ g l j. row_in ink n u old g l ∙ same _ old j ∙ sym (row_in f n u old g l))

  -- a row in one way, and then the same row in another
  pub row-then : (ink f g : ℕ → ℕ → ℕ) (n : ℕ) → ((j old : ℕ) → j < n → ink j old ≡ g j (f j old)) → (u old : ℕ)
      → row_after ink n z x u old ≡ row_after g n z x u (row_after f n z x u old)
  row-then ink f g n same u old =
      row-where (λ u old. row_after ink n z x u old ≡ row_after g n z x u (row_after f n z x u old)) ink n u old
      (λ l. row-left ink n u old l ∙ sym (row-left g n u _ l ∙ row-left f n u old l))
      (λ r. row-right ink n u old r ∙ sym (row-right g n u _ r ∙ row-right f n u old r))
      (λ h l j. row_in ink n u old h l ∙ same _ old j
      ∙ sym (row_in g n u _ h l ∙ ap (g ((u - x) / z)) (row_in f n u old h l)))

  -- a run of columns is a run of the line
  pub row-run : (colour n a e : ℕ) → e ≤ n → (u old : ℕ)
      → row_after (run_after a e colour) n z x u old ≡ run_after (x + a * z) (x + e * z) colour u old
  row-run colour n a e h u old =
      let m : e * z ≤ n * z = mul-le-mul_right z h in
      row-where (λ u old. row_after (run_after a e colour) n z x u old ≡ run_after (x + a * z) (x + e * z) colour u old)
      (run_after a e colour) n u old
      (λ l. row-left _ n u old l ∙ sym (run-left (x + a * z) (x + e * z) colour u old (omega arith)))
      (λ r. row-right _ n u old r ∙ sym (run-right (x + a * z) (x + e * z) colour u old (omega arith)))
      (λ g l _. row_in _ n u old g l ∙ run-scaled g)
    where
      run-scaled : x ≤ u → run_after a e colour ((u - x) / z) old ≡ run_after (x + a * z) (x + e * z) colour u old
      run-scaled from = ⊎_elim
          (λ (l : (u - x) / z < a).
          let h : u - x < a * z = (div-lt_iff_lt-mul {k = z} pos).0 l in
          run-left a e colour _ old l ∙ sym (run-left (x + a * z) (x + e * z) colour u old (omega arith)))
          (λ (g : a ≤ (u - x) / z). ⊎_elim
          (λ (l : (u - x) / z < e).
          let h : a * z ≤ u - x = (le-div_iff_mul-le {k = z} pos).0 g in
          let i : u - x < e * z = (div-lt_iff_lt-mul {k = z} pos).0 l in
          run_in a e colour _ old g l
          ∙ sym (run_in (x + a * z) (x + e * z) colour u old (omega arith) (omega arith)))
          (λ (r : e ≤ (u - x) / z).
          let h : e * z ≤ u - x = (le-div_iff_mul-le {k = z} pos).0 r in
          run-right a e colour _ old r ∙ sym (run-right (x + a * z) (x + e * z) colour u old (omega arith)))
          (split ((u - x) / z) e))
          (split ((u - x) / z) a)

-- a pixels from x and then b more from x + a * z
pub row_more : (z : ℕ) → 0 < z → (x a b at : ℕ) (p q : ℕ → ℕ → ℕ) → at ≡ x + a * z
    → ((j old : ℕ) → j < b → q j old ≡ p (a + j) old) → (u old : ℕ)
    → row_after p (a + b) z x u old ≡ row_after q b z at u (row_after p a z x u old)
row_more z pos x a b at p q e same u old =
    let m : (a + b) * z ≡ a * z + b * z = add-mul a b z in
    ⊎_elim
    (λ (l : u < x). row-left z pos x p (a + b) u old l
    ∙ sym (row-left z pos at q b u _ (omega arith) ∙ row-left z pos x p a u old l))
    (λ (g : x ≤ u). ⊎_elim
    (λ (l : u < at). row_in z pos x p (a + b) u old g (omega arith)
    ∙ sym (row-left z pos at q b u _ l ∙ row_in z pos x p a u old g (omega arith)))
    (λ (h : at ≤ u). ⊎_elim
    (λ (l : u < at + b * z).
    let j : (u - at) / z < b = (div-lt_iff_lt-mul {k = z} pos).1 (omega arith) in
    let d : u - x ≡ (u - at) + a * z = omega arith in
    let r : (u - x) / z ≡ a + (u - at) / z = ap (λ (n : ℕ). n / z) d ∙ add-mul-div_right (u - at) a pos ∙ omega arith in
    row_in z pos x p (a + b) u old g (omega arith) ∙ rw (r, ← same ((u - at) / z) old j)
    (sym (row_in z pos at q b u _ h l
    ∙ ap (q ((u - at) / z)) (row-right z pos x p a u old (omega arith)))))
    (λ (r : at + b * z ≤ u). row-right z pos x p (a + b) u old (omega arith)
    ∙ sym (row-right z pos at q b u _ r ∙ row-right z pos x p a u old (omega arith)))
    (split u (at + b * z)))
    (split u at))
    (split u x)

-- ---- a mask: a run of it, and then the others

mask_ink-same : (mask colour j : ℕ) → mask_ink mask colour j colour ≡ colour
unfolding mask_ink
mask_ink-same mask colour j =
    pick-keeps (λ (m : ℕ). m ≡ colour) (eqb (pixel_of 1 mask j) 0) colour colour (λ _. refl) (λ _. refl)

pub mask_ink-none : (mask colour j old : ℕ) → pixel_of 1 mask j ≡ 0 → mask_ink mask colour j old ≡ old
unfolding mask_ink
mask_ink-none mask colour j old e = rw (eq-eqb _ 0 e)

pub mask_ink-run : (mask rest colour a e j old : ℕ) → pixel_of 1 mask j ≡ run_after a e 1 j (pixel_of 1 rest j)
    → mask_ink mask colour j old ≡ mask_ink rest colour j (run_after a e colour j old)
unfolding mask_ink
mask_ink-run mask rest colour a e j old same = ⊎_elim
    (λ (l : j < a). rw (same, run-left a e 1 j (pixel_of 1 rest j) l, run-left a e colour j old l) refl)
    (λ (g : a ≤ j). ⊎_elim
    (λ (l : j < e). rw (same, run_in a e 1 j (pixel_of 1 rest j) g l, run_in a e colour j old g l)
    (sym (mask_ink-same rest colour j)))
    (λ (r : e ≤ j). rw (same, run-right a e 1 j (pixel_of 1 rest j) r, run-right a e colour j old r) refl)
    (split j e))
    (split j a)

-- ---- a line of a glyph, value by value

-- the pixel where it is at most k, and else 0
abbrev up_to_lem : ℕ → ℕ → ℕ
up_to_lem k p = pick (leb p k) p 0

-- what the values up to k make of a pixel
unfoldable pub values_ink : ℕ → ℕ → ℕ → ℕ → ℕ → ℕ → ℕ
values_ink bits line colour k j old = inked (up_to_lem k (pixel_of bits line j)) colour old

module _ (bits line colour : ℕ) where
  pub values-none : (j old : ℕ) → values_ink bits line colour 0 j old ≡ old
  unfolding values_ink inked
  values-none j old = ⊎_elim
      (λ (l : pixel_of bits line j < 1). let q : pixel_of bits line j ≡ 0 = omega arith in rw q)
      (λ (g : 1 ≤ pixel_of bits line j). rw (lt-leb (pixel_of bits line j) 0 g))
      (split (pixel_of bits line j) 1)

  pub values-all : (k j old : ℕ) → pixel_of bits line j ≤ k → values_ink bits line colour k j old ≡ line_ink bits line colour j old
  unfolding values_ink line_ink
  values-all k j old h = rw (le-leb _ _ h)

  -- of a pixel that is not k + 1 the values up to k + 1 make what those up to k do
  up_to-more : (p k : ℕ) → (p ≡ k + 1 → ⊥) → up_to_lem (k + 1) p ≡ up_to_lem k p
  up_to-more p k ne = ⊎_elim
      (λ (l : p < k + 1). rw (le-leb p (k + 1) (omega arith), le-leb p k (omega arith)))
      (λ (g : k + 1 ≤ p).
      let h : k + 1 < p = omega (arith, ne) in rw (lt-leb p (k + 1) h, lt-leb p k (omega arith)))
      (split p (k + 1))

  pub values-more : (k mask shade j old : ℕ) → j < glyph_columns → Marks bits line (k + 1) mask
      → shade ≡ (colour + k) % colours
      → values_ink bits line colour (k + 1) j old ≡ mask_ink mask shade j (values_ink bits line colour k j old)
  unfolding values_ink mask_ink inked
  values-more k mask shade j old h m e = ⊎_elim
      (λ (q : pixel_of bits line j ≡ k + 1).
      let s : colour + (k + 1) - 1 ≡ colour + k = omega arith in
      rw (
        m.at j h,
        q,
        eq-eqb (k + 1) (k + 1) refl,
        le-leb (k + 1) (k + 1) (omega arith),
        ne_eqb (k + 1) 0 (λ z. omega arith),
        s,
        e,
      ))
      (λ (ne : pixel_of bits line j ≡ k + 1 → ⊥). rw (m.at j h, ne_eqb _ _ ne, up_to-more (pixel_of bits line j) k ne))
      (same_or (pixel_of bits line j) (k + 1))

-- ---- a string's pixels, a character at a time

pub string_ink-at : (bits : ℕ) (strings font : List ℕ) (n row colour i j old : ℕ) → j < glyph_columns
    → line_ink bits (glyph_row bits font (character strings n i) row) colour j old
    ≡ string_ink bits strings font n row colour (glyph_columns * i + j) old
unfolding string_ink
string_ink-at bits strings font n row colour i j old h =
    let a : (glyph_columns * i + j) / glyph_columns ≡ i = omega arith in
    let b : (glyph_columns * i + j) % glyph_columns ≡ j = omega arith in rw (a, b)

-- ---- the rows of a text

module _ (bits : ℕ) (strings font : List ℕ) (n z x y colour v : ℕ) where
  pub text-above : v < y → (u old : ℕ) → text_after bits strings font n z x y colour v u old ≡ old
  unfolding text_after
  text-above h u old = simp (lt-leb y v h, both-none)

  pub text-below : 0 < z → y + glyph_rows * z ≤ v → (u old : ℕ) → text_after bits strings font n z x y colour v u old ≡ old
  unfolding text_after
  text-below pos h u old =
      let q : glyph_rows ≤ (v - y) / z = (le-div_iff_mul-le {k = z} pos).1 (omega arith) in
      simp (le-ltb ((v - y) / z) glyph_rows q, both-none)

  pub text-number : geometry.strings ≤ n → (u old : ℕ) → text_after bits strings font n z x y colour v u old ≡ old
  unfolding text_after
  text-number h u old = simp (le-ltb n geometry.strings h)

  pub text-row : 0 < z → y ≤ v → v < y + glyph_rows * z → n < geometry.strings → (u old : ℕ)
      → string_after bits strings font n ((v - y) / z) z x colour u old ≡ text_after bits strings font n z x y colour v u old
  unfolding text_after
  text-row pos a b c u old =
      let q : (v - y) / z < glyph_rows = (div-lt_iff_lt-mul {k = z} pos).1 (omega arith) in
      simp (lt-ltb n geometry.strings c, le-leb y v a, lt-ltb ((v - y) / z) glyph_rows q)

pub row_lt : (z y v : ℕ) → 0 < z → v < y + glyph_rows * z → y ≤ v → (v - y) / z < glyph_rows
row_lt z y v pos h g = (div-lt_iff_lt-mul {k = z} pos).1 (omega arith)

-- ---- the line of a glyph, of one byte or of two

bytes_one : (font : List ℕ) (at : ℕ) → bytes_from font at 1 ≡ get_or font at 0
unfolding bytes_from
bytes_one font at = let q : at + 0 ≡ at = omega arith in rw q (omega arith)

bytes-two : (font : List ℕ) (at : ℕ) → bytes_from font at 2 ≡ 256 * get_or font at 0 + get_or font (at + 1) 0
unfolding bytes_from
bytes-two font at = let q : at + 0 ≡ at = omega arith in rw q (omega arith)

module _ (bits : ℕ) (font : List ℕ) (c row : ℕ) where
  -- as `glyph_row` answers it
  abbrev IsRow : ℕ → Type 0
  IsRow r = (r ≡ glyph_row bits font c row) × (r < 2 ^ (8 * bits))

  pub glyph-low : {n : ℕ} → n ≡ c → n < first_character → IsRow 0
  unfolding glyph_row
  glyph-low e h = (simp (lt-leb first_character c (omega arith)), pow_pos (8 * bits))

  pub glyph-high : {n : ℕ} → n ≡ c → last_character < n → IsRow 0
  unfolding glyph_row
  glyph-high e h = (simp (lt-leb c last_character (omega arith), both-none), pow_pos (8 * bits))

  module _ {n : ℕ} (e : n ≡ c) (a : first_character ≤ n) (b : n ≤ last_character) where
    glyph-in : bytes_from font (geometry.glyph_len bits * (n - first_character) + bits * row) bits
        ≡ glyph_row bits font c row
    unfolding glyph_row
    glyph-in = rw e (simp (le-leb first_character c (omega arith), le-leb c last_character (omega arith)))

    pub glyph-one : (byte : ℕ) → bits ≡ 1 → byte < 256 → byte ≡ get_or font (glyph_rows * (n - first_character) + row) 0
        → IsRow byte
    glyph-one byte one h q =
        let at : geometry.glyph_len 1 * (n - first_character) + 1 * row ≡ glyph_rows * (n - first_character) + row = omega
        arith in
        (rw one (q ∙ ap (λ (i : ℕ). get_or font i 0) (sym at) ∙ sym (bytes_one font _) ∙ rw one at glyph-in), rw one h)

    pub glyph-two : (first second : ℕ) → (bits ≡ 1 → ⊥) → 0 < bits → bits ≤ 2 → first < 256 → second < 256
        → first ≡ get_or font (2 * (glyph_rows * (n - first_character) + row)) 0
        → second ≡ get_or font (2 * (glyph_rows * (n - first_character) + row) + 1) 0 → IsRow (256 * first + second)
    glyph-two first second ne some few hf hs qf qs =
        let two : bits ≡ 2 = omega (arith, ne) in
        let at : geometry.glyph_len 2 * (n - first_character) + 2 * row ≡ 2 * (glyph_rows * (n - first_character) + row) =
        omega arith in (
          rw (two, qf, qs, ← at) (sym (bytes-two font _) ∙ rw two at glyph-in),
          rw two (omega arith),
        )
