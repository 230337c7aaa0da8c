-- Where everything stands in the lent table buffer: 01 "Tables", and 02 K2 with two bits a glyph pixel. Every
-- number of it stands here once, over the number of those bits. Assumes nothing.
use Rattle.std.specs.Prelude.{ℕ, ◌+◌, ◌*◌, [], ◌∷◌, get_or}

-- ---- what a bank holds

-- 01 "Tables": "in it instructions at 0 (48 of 16 bytes), colours at 768 (16 of 4), strings at 832 (8 of 32), font
-- at 1,088 (96 glyphs of 8 bytes). These counts are 000's sample configuration.": how many instructions
abbrev pub instructions : ℕ
instructions = 48

-- the bytes of one
abbrev pub instruction_len : ℕ
instruction_len = 16

-- how many colours
abbrev pub colours : ℕ
colours = 16

-- the bytes of one
abbrev pub colour_len : ℕ
colour_len = 4

-- how many strings
abbrev pub strings : ℕ
strings = 8

-- the bytes of one
abbrev pub string_len : ℕ
string_len = 32

-- how many glyphs
abbrev pub glyphs : ℕ
glyphs = 96

-- the lines of one
abbrev pub glyph_rows : ℕ
glyph_rows = 8

-- the bytes of one: a line of eight pixels is a byte, and 02 K2: "A glyph line is two bytes" with two bits each
abbrev pub glyph_len : ℕ → ℕ
glyph_len bits = glyph_rows * bits

-- ---- the four kinds of a bank

-- "kind (0 instruction, 1 colour, 2 text, 3 font)": a list of instructions
abbrev pub list_kind : ℕ
list_kind = 0

-- a colour table
abbrev pub colours_kind : ℕ
colours_kind = 1

-- the strings of a text
abbrev pub strings_kind : ℕ
strings_kind = 2

-- a font
abbrev pub font_kind : ℕ
font_kind = 3

-- the bytes of a list of instructions
abbrev pub list_len : ℕ
list_len = instructions * instruction_len

-- the bytes of a colour table
abbrev pub colours_len : ℕ
colours_len = colours * colour_len

-- the bytes of the strings
abbrev pub strings_len : ℕ
strings_len = strings * string_len

-- the bytes of a font; 02 K2: "A font bank grows to 1,536 bytes"
abbrev pub font_len : ℕ → ℕ
font_len bits = glyphs * glyph_len bits

-- where the font begins in its bank
abbrev pub font_at : ℕ
font_at = 1088

-- where a kind does
unfoldable pub kind_at : ℕ → ℕ
kind_at kind = get_or (0 ∷ 768 ∷ 832 ∷ font_at ∷ []) kind 0

-- the bytes of a kind
unfoldable pub kind_len : ℕ → ℕ → ℕ
kind_len bits kind = get_or (list_len ∷ colours_len ∷ strings_len ∷ font_len bits ∷ []) kind 0

-- ---- the buffer

-- the bytes of a bank, which the font ends: 1,856; "a bank to 2,624"
unfoldable pub bank_len : ℕ → ℕ
bank_len bits = font_at + font_len bits

-- the bytes of a controller's two banks: 3,712, or 5,248
abbrev pub controller_len : ℕ → ℕ
controller_len bits = 2 * bank_len bits

-- "The lent table buffer has 29,696 bytes", those of eight controllers; "the tables to 41,984"
unfoldable pub tables_len : ℕ → ℕ
tables_len bits = 8 * controller_len bits

-- "controller g (which serves layer g) at 3,712·g, bank b at +1,856·b": where a kind of it begins
abbrev pub bank_at : ℕ → ℕ → ℕ → ℕ → ℕ
bank_at bits g b kind = controller_len bits * g + bank_len bits * b + kind_at kind
