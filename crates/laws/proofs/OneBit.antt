-- With one bit a glyph pixel every definition is what document 01 has: the tables' numbers, a text, a layer's pixel.
-- No other definition asks for the number of bits but through these. Assumes nothing.
use mathlib.Core.Path.{◌≡◌, refl, ap, ◌∙◌}
use mathlib.Core.List.{List}
use Prim.Native.Nat.{ℕ, zero, suc, ◌+◌, ◌-◌, ◌*◌, ◌%◌, ◌<◌}
use native.Mathlib.Nat.{one-mul, mod-eq_of_lt}
use native.Mathlib.Omega.{arith}
use lib.Dec.{leb}
use lib.ListN.{get_or}
use Rattle.lists.specs.Choice.{pick, both}
use Rattle.tables.specs.Geometry.{tables_len, bank_len, kind_at, kind_len, bank_at}
use Rattle.draw.specs.Instruction.{text_colour}
use Rattle.draw.specs.Box.{box_of}
use Rattle.draw.specs.Text.{bytes_from, glyph_row, pixel_of, inked, line_ink, row_after, string_ink}
use Rattle.draw.specs.Text.{text_after, text_of}
use Rattle.draw.specs.Drawing.{drawn_by, drawn_to, index_at}
use Rattle.frames.specs.Pixel.{bank_bytes, colour_index, graphics_at}
use Rattle.laws.specs.OneBit.{bank_at01, kind_len01, table01, glyph01, pixel01, inked01, text_of01, drawn_by01}
use Rattle.laws.specs.OneBit.{drawn_to01, index01, graphics01}

-- ---- tables

pub one-tables : tables_len 1 ≡ 29696
unfolding tables_len bank_len
one-tables = refl

pub one-bank : (g b kind : ℕ) → bank_at 1 g b kind ≡ bank_at01 g b kind
unfolding bank_len kind_at
one-bank g b kind = refl

pub one-kind : (kind : ℕ) → kind_len 1 kind ≡ kind_len01 kind
unfolding kind_len
one-kind kind = refl

pub one_table : (w tables : List ℕ) (n kind : ℕ) → bank_bytes 1 w tables n kind ≡ table01 w tables n kind
unfolding bank_bytes kind_len kind_at bank_len
one_table w tables n kind = refl

-- ---- text

one-glyph : (font : List ℕ) (c row : ℕ) → glyph_row 1 font c row ≡ glyph01 font c row
unfolding glyph_row bytes_from
one-glyph font c row =
    let q : 8 * (c - 32) + 1 * row + 0 ≡ 8 * (c - 32) + row = omega arith in
    ap (λ (m : ℕ). pick (both (leb 32 c) (leb c 127)) m 0)
    (ap (λ (i : ℕ). 0 + get_or font i 0) q ∙ omega arith)

one-pixel : (line column : ℕ) → pixel_of 1 line column ≡ pixel01 line column
unfolding pixel_of
one-pixel line column = rw (one-mul (7 - column))

-- of a pixel that is 0 or 1, in a colour below 16
one-inked : (pixel colour old : ℕ) → pixel < 2 → colour < 16 → inked pixel colour old ≡ inked01 pixel colour old
unfolding inked
one-inked zero colour old h hc = refl
one-inked (suc zero) colour old h hc =
    let q : (colour + 1 - 1) % 16 ≡ colour = ap (λ (n : ℕ). n % 16) (let e : colour + 1 - 1 ≡ colour = omega arith in e)
    ∙ mod-eq_of_lt hc in q
one-inked (suc (suc pixel)) colour old h hc = absurd (let z : suc (suc pixel) < 2 = h in omega arith)

one-ink : (font : List ℕ) (c row colour column old : ℕ) → colour < 16
    → line_ink 1 (glyph_row 1 font c row) colour column old ≡ inked01 (pixel01 (glyph01 font c row) column) colour old
unfolding line_ink
one-ink font c row colour column old hc =
    rw (one-glyph font c row, one-pixel (glyph01 font c row) column) (one-inked _ colour old (omega arith) hc)

pub one-text : (ins strings font : List ℕ) (k v u old : ℕ)
    → text_of 1 ins strings font k v u old ≡ text_of01 ins strings font k v u old
unfolding text_of text_after row_after string_ink
one-text ins strings font k v u old = rw (one-ink font _ _ (text_colour ins k) _ old (omega arith))

-- ---- a list

one-drawn : (ins strings font : List ℕ) (k v u old : ℕ)
    → drawn_by 1 ins strings font k v u old ≡ drawn_by01 ins strings font k v u old
unfolding drawn_by
one-drawn ins strings font k v u old =
    rw (one-text ins strings font k v u old, one-text ins strings font k v u (box_of ins k v u old))

one_list : (ins strings font : List ℕ) (n v u : ℕ) → drawn_to 1 ins strings font n v u ≡ drawn_to01 ins strings font n v u
unfolding drawn_to drawn_to01
one_list ins strings font zero v u = refl
one_list ins strings font (suc n) v u =
    one-drawn ins strings font n v u _ ∙ ap (drawn_by01 ins strings font n v u) (one_list ins strings font n v u)

-- ---- a layer's pixel

pub one_index : (w tables : List ℕ) (n v u : ℕ) → colour_index 1 w tables n v u ≡ index01 w tables n v u
unfolding colour_index index_at
one_index w tables n v u =
    rw (one_table w tables n 0, one_table w tables n 2, one_table w tables n 3) (one_list _ _ _ _ v u)

pub one-graphics : (w tables : List ℕ) (n v u c : ℕ) → graphics_at 1 w tables n v u c ≡ graphics01 w tables n v u c
unfolding graphics_at
one-graphics w tables n v u c = rw (one_index w tables n v u, one_table w tables n 1)
