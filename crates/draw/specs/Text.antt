-- Text: 01 "Graphics layers", and 02 K2 with two bits a glyph pixel. Every rule is over the number of those bits;
-- strings and font are lists of bytes. Assumes nothing.
use Rattle.std.specs.Prelude.{ℕ, zero, suc, ◌+◌, ◌-◌, ◌*◌, ◌/◌, ◌%◌, ◌^◌, List, get_or, leb, ltb, eqb}
use Rattle.lists.specs.Choice.{pick, both}
use Rattle.lists.specs.Zero.{zero_from}
use Rattle.tables.specs.Geometry as geometry
use Rattle.draw.specs.Instruction.{x_start, y_start, string, scale, text_colour}

-- 01 "Graphics layers": "stops at the string's first zero byte or after 32 characters (000: characters
-- after the NULL are not shown)": character i of string n
abbrev pub character : List ℕ → ℕ → ℕ → ℕ
character strings n i = get_or strings (geometry.string_len * n + i) 0

-- how many of string n are shown
unfoldable pub characters_of : List ℕ → ℕ → ℕ
characters_of strings n = zero_from geometry.string_len (character strings n) 0

-- "Character i fills a cell 8·scale wide and high.": a glyph's pixels across; down it has its rows
abbrev pub glyph_columns : ℕ
glyph_columns = 8

-- "Glyph c−32 serves characters 32 to 127": the first of them
abbrev pub first_character : ℕ
first_character = 32

-- and the last of them
abbrev pub last_character : ℕ
last_character = 127

-- bytes from a place on as one number, the first of them the highest
unfoldable pub bytes_from : List ℕ → ℕ → ℕ → ℕ
bytes_from font at zero = 0
bytes_from font at (suc n) = 256 * bytes_from font at n + get_or font (at + n) 0

-- "others leave their cell."; 02 K2: "A glyph line is two bytes": the line of a character's glyph in a row, 0 for a
-- character without one
unfoldable pub glyph_row : ℕ → List ℕ → ℕ → ℕ → ℕ
glyph_row bits font c row =
    pick (both (leb first_character c) (leb c last_character))
    (bytes_from font (geometry.glyph_len bits * (c - first_character) + bits * row) bits) 0

-- "The top bit is leftmost"; 02 K2: "leftmost pixel in the top two bits of the first", "The glyph question now answers 0
-- to 3 where it answered yes or no": a line's pixel at a column
unfoldable pub pixel_of : ℕ → ℕ → ℕ → ℕ
pixel_of bits line column = line / 2 ^ (bits * (glyph_columns - 1 - column)) % 2 ^ bits

-- "a 1 gives the text colour, a 0 leaves the pixel."; 02 K2: "0 leaves the pixel, 1 to 3 give text colour plus value
-- minus one, modulo 16."
unfoldable pub inked : ℕ → ℕ → ℕ → ℕ
inked pixel colour old = pick (eqb pixel 0) old ((colour + pixel - 1) % geometry.colours)

-- what a pixel of a line of a glyph makes of what stood there
unfoldable pub line_ink : ℕ → ℕ → ℕ → ℕ → ℕ → ℕ
line_ink bits line colour column old = inked (pixel_of bits line column) colour old

-- "Text starts at x start": n pixels in a row, each z wide, where pixel j makes ink j of what stood there
unfoldable pub row_after : (ℕ → ℕ → ℕ) → ℕ → ℕ → ℕ → ℕ → ℕ → ℕ
row_after ink n z x u old = pick (both (leb x u) (ltb ((u - x) / z) n)) (ink ((u - x) / z) old) old

-- the cells stand side by side: a string's pixel j in a row of glyphs is of character j / 8, and of its column j % 8
unfoldable pub string_ink : ℕ → List ℕ → List ℕ → ℕ → ℕ → ℕ → ℕ → ℕ → ℕ
string_ink bits strings font n row colour j old =
    line_ink bits (glyph_row bits font (character strings n (j / glyph_columns)) row) colour (j % glyph_columns) old

-- a row of glyphs of string n, as far as it is shown
abbrev pub string_after : ℕ → List ℕ → List ℕ → ℕ → ℕ → ℕ → ℕ → ℕ → ℕ → ℕ → ℕ
string_after bits strings font n row z x colour =
    row_after (string_ink bits strings font n row colour) (glyph_columns * characters_of strings n) z x

-- "Text starts at x start, y start". "A string number above 7 draws nothing." "Text is bounded by the
-- layer, not by x end."
unfoldable pub text_after : ℕ → List ℕ → List ℕ → ℕ → ℕ → ℕ → ℕ → ℕ → ℕ → ℕ → ℕ → ℕ
text_after bits strings font n z x y colour v u old =
    pick (both (ltb n geometry.strings) (both (leb y v) (ltb ((v - y) / z) geometry.glyph_rows)))
    (string_after bits strings font n ((v - y) / z) z x colour u old)
    old

-- the text of instruction k
unfoldable pub text_of : ℕ → List ℕ → List ℕ → List ℕ → ℕ → ℕ → ℕ → ℕ → ℕ
text_of bits ins strings font k v u old =
    text_after bits strings font (string ins k) (scale ins k) (x_start ins k) (y_start ins k) (text_colour ins k) v u old
