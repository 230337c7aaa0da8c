-- Worked figures of filled boxes and text: instruction lists as bytes, and the index at (u, v), by
-- computing. Assumes nothing.
use mathlib.Core.Path.{◌≡◌, refl}
use mathlib.Core.Bool.{true}
use mathlib.Core.List.{List, [], ◌∷◌, ◌++◌}
use Prim.Native.Nat.{ℕ}
use Rattle.lists.specs.Tab.{tab}
use Rattle.lists.specs.Zero.{zero_from}
use Rattle.lists.specs.Little.{little_at}
use Rattle.draw.specs.Instruction.{scale_of}
use Rattle.draw.specs.Box.{box_after, box_of}
use Rattle.draw.specs.Text.{characters_of, bytes_from, glyph_row, pixel_of, inked, line_ink, row_after, string_ink}
use Rattle.draw.specs.Text.{text_after, text_of}
use Rattle.draw.specs.Drawing.{drawn_by, drawn_to, count_of, ended_of, index_at}

-- opcode op, x 2..5, string n, y 1..3, outline weight 0, box colour 5, text colour 7, scale 1
abbrev one : ℕ → ℕ → List ℕ
one op n =
    2 ∷ 80 ∷ 0 ∷ op ∷ n ∷ 0 ∷ 0 ∷ 0 ∷ 1 ∷ 48 ∷ 0 ∷ 0 ∷ 5 ∷ 7 ∷ 0 ∷ 0 ∷ []

-- the top bytes of word 0 for END, a box, text, and both
abbrev END : ℕ
END = 0

abbrev BOX : ℕ
BOX = 160

abbrev TEXT : ℕ
TEXT = 192

abbrev BOTH : ℕ
BOTH = 224

-- string 0 is "!", byte 31, "!", a zero byte and one more "!"; the glyph of "!" has the rows 129 and 66
abbrev signs : List ℕ
signs = 33 ∷ 31 ∷ 33 ∷ 0 ∷ 33 ∷ []

abbrev font : List ℕ
font = 0 ∷ 0 ∷ 0 ∷ 0 ∷ 0 ∷ 0 ∷ 0 ∷ 0 ∷ 129 ∷ 66 ∷ []

abbrev at : List ℕ → ℕ → ℕ → ℕ
at ins u v = index_at 1 ins signs font v u

-- weight 0 fills, and both ends are included
pub fills : (at (one BOX 0) 3 2 ∷ at (one BOX 0) 5 3 ∷ at (one BOX 0) 2 1 ∷ at (one BOX 0) 5 4 ∷ [])
    ≡ (5 ∷ 5 ∷ 5 ∷ 0 ∷ [])
unfolding index_at count_of zero_from drawn_to drawn_by box_of box_after little_at
fills = refl

-- rows 1 and 2 of the text: its first pixel is at x start, byte 31 leaves its cell, the character
-- after the zero byte is not shown
pub letters : (tab 30 (index_at 1 (one TEXT 0) signs font 1) ≡
    (0 ∷ 0 ∷ 7 ∷ 0 ∷ 0 ∷ 0 ∷ 0 ∷ 0 ∷ 0 ∷ 7 ∷ 0 ∷ 0 ∷ 0 ∷ 0 ∷ 0 ∷ 0 ∷ 0 ∷ 0 ∷ 7 ∷ 0 ∷ 0 ∷ 0 ∷ 0 ∷ 0 ∷ 0 ∷ 7 ∷ 0 ∷ 0 ∷ 0
    ∷ 0 ∷ []))
    × ((at (one TEXT 0) 2 2 ∷ at (one TEXT 0) 3 2 ∷ []) ≡ (0 ∷ 7 ∷ []))
unfolding tab index_at count_of zero_from drawn_to drawn_by text_of text_after row_after string_ink line_ink characters_of inked
    pixel_of glyph_row bytes_from scale_of little_at
letters = (refl, refl)

-- the same with two bits a pixel: of "!" the first two lines are the pixels 0 1 3 3 2 0 0 1 and 3 0 0 0 0 0 0 2, so
-- that colours 7, 8 and 9 are seen; and in text colour 15 colours 15, 0 and 1
abbrev soft_font : List ℕ
soft_font = 0 ∷ 0 ∷ 0 ∷ 0 ∷ 0 ∷ 0 ∷ 0 ∷ 0 ∷ 0 ∷ 0 ∷ 0 ∷ 0 ∷ 0 ∷ 0 ∷ 0 ∷ 0 ∷ 0x1f ∷ 0x81 ∷ 0xc0 ∷ 0x02 ∷ []

pub soft-letters : (tab 12 (index_at 2 (one TEXT 0) signs soft_font 1) ≡
    (0 ∷ 0 ∷ 0 ∷ 7 ∷ 9 ∷ 9 ∷ 8 ∷ 0 ∷ 0 ∷ 7 ∷ 0 ∷ 0 ∷ []))
    × (tab 12 (index_at 2 (one TEXT 0) signs soft_font 2) ≡ (0 ∷ 0 ∷ 9 ∷ 0 ∷ 0 ∷ 0 ∷ 0 ∷ 0 ∷ 0 ∷ 8 ∷ 0 ∷ 0 ∷ []))
    × ((inked 1 15 5 ∷ inked 2 15 5 ∷ inked 3 15 5 ∷ inked 0 15 5 ∷ []) ≡ (15 ∷ 0 ∷ 1 ∷ 5 ∷ []))
unfolding tab index_at count_of zero_from drawn_to drawn_by text_of text_after row_after string_ink line_ink characters_of inked
    pixel_of glyph_row bytes_from scale_of little_at
soft-letters = (refl, refl, refl)

-- opcode 14 draws text over its box; a string number above 7 takes only the text away
pub both-drawn : (at (one BOTH 0) 2 1 ∷ at (one BOTH 0) 3 1 ∷ at (one BOTH 8) 2 1 ∷ []) ≡ (7 ∷ 5 ∷ 5 ∷ [])
unfolding index_at count_of zero_from drawn_to drawn_by box_of box_after text_of text_after row_after string_ink line_ink
    characters_of inked pixel_of glyph_row bytes_from scale_of little_at
both-drawn = refl

-- what stands after an END is not drawn
pub ended : (at (one END 0 ++ one BOX 0) 2 1 ∷ count_of (one END 0 ++ one BOX 0) ∷ count_of (one BOX 0) ∷ [])
    ≡ (0 ∷ 0 ∷ 1 ∷ [])
unfolding index_at count_of zero_from drawn_to drawn_by box_of box_after little_at
ended = refl

pub found : ended_of (one BOX 0) ≡ true
unfolding ended_of count_of zero_from little_at
found = refl
