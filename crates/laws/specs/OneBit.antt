-- Document 01's own text and tables, as its sentences have them with one bit a glyph pixel: what 02 K2 leaves as it
-- was. Assumes nothing.
use Rattle.std.specs.Prelude.{ℕ, zero, suc, ◌+◌, ◌-◌, ◌*◌, ◌/◌, ◌%◌, ◌^◌, List, [], ◌∷◌, get_or, take, drop, leb, ltb, eqb}
use Rattle.lists.specs.Choice.{pick, both}
use Rattle.words.specs.Fields.{active_bank_of}
use Rattle.draw.specs.Instruction.{opcode, x_start, y_start, string, scale, text_colour}
use Rattle.draw.specs.Box.{box_of}
use Rattle.draw.specs.Text.{character, characters_of}
use Rattle.draw.specs.Drawing.{count_of}

-- ---- 01 "Tables"

-- "controller g (which serves layer g) at 3,712·g, bank b at +1,856·b, in it instructions at 0 .., colours at 768 ..,
-- strings at 832 .., font at 1,088 .."
abbrev pub bank_at01 : ℕ → ℕ → ℕ → ℕ
bank_at01 g b kind = 3712 * g + 1856 * b + get_or (0 ∷ 768 ∷ 832 ∷ 1088 ∷ []) kind 0

-- "(48 of 16 bytes), .. (16 of 4), .. (8 of 32), .. (96 glyphs of 8 bytes)"
abbrev pub kind_len01 : ℕ → ℕ
kind_len01 kind = get_or (768 ∷ 64 ∷ 256 ∷ 768 ∷ []) kind 0

-- the active table of a kind that serves layer n
abbrev pub table01 : List ℕ → List ℕ → ℕ → ℕ → List ℕ
table01 w tables n kind = take (kind_len01 kind) (drop (bank_at01 n (active_bank_of w n kind) kind) tables)

-- ---- 01 "Graphics layers"

-- "Glyph c−32 serves characters 32 to 127; others leave their cell."
abbrev pub glyph01 : List ℕ → ℕ → ℕ → ℕ
glyph01 font c row = pick (both (leb 32 c) (leb c 127)) (get_or font (8 * (c - 32) + row) 0) 0

-- "The top bit is leftmost"
abbrev pub pixel01 : ℕ → ℕ → ℕ
pixel01 byte column = byte / 2 ^ (7 - column) % 2

-- "a 1 gives the text colour, a 0 leaves the pixel."
abbrev pub inked01 : ℕ → ℕ → ℕ → ℕ
inked01 pixel colour old = pick (eqb pixel 0) old colour

-- "Text starts at x start, y start and stops at the string's first zero byte or after 32 characters": "Character i fills a
-- cell 8·scale wide and high."
abbrev pub text01 : List ℕ → List ℕ → ℕ → ℕ → ℕ → ℕ → ℕ → ℕ → ℕ → ℕ → ℕ
text01 strings font n z x y colour v u old =
    pick (both (ltb n 8) (both (leb y v) (ltb ((v - y) / z) 8)))
    (pick (both (leb x u) (ltb ((u - x) / z) (8 * characters_of strings n)))
    (inked01 (pixel01 (glyph01 font (character strings n ((u - x) / z / 8)) ((v - y) / z)) ((u - x) / z % 8)) colour old)
    old)
    old

-- that of instruction k
abbrev pub text_of01 : List ℕ → List ℕ → List ℕ → ℕ → ℕ → ℕ → ℕ → ℕ
text_of01 ins strings font k v u old =
    text01 strings font (string ins k) (scale ins k) (x_start ins k) (y_start ins k) (text_colour ins k) v u old

-- "10 is a box, 12 text, 14 a box and then text over it. All others do nothing": of instruction k
abbrev pub drawn_by01 : List ℕ → List ℕ → List ℕ → ℕ → ℕ → ℕ → ℕ → ℕ
drawn_by01 ins strings font k v u old =
    pick (eqb (opcode ins k) 10) (box_of ins k v u old)
    (pick (eqb (opcode ins k) 12) (text_of01 ins strings font k v u old)
    (pick (eqb (opcode ins k) 14) (text_of01 ins strings font k v u (box_of ins k v u old)) old))

-- and of the first n of them
unfoldable pub drawn_to01 : List ℕ → List ℕ → List ℕ → ℕ → ℕ → ℕ → ℕ
drawn_to01 ins strings font zero v u = 0
drawn_to01 ins strings font (suc n) v u = drawn_by01 ins strings font n v u (drawn_to01 ins strings font n v u)

-- the colour index in row v and column u of layer n
abbrev pub index01 : List ℕ → List ℕ → ℕ → ℕ → ℕ → ℕ
index01 w tables n v u =
    drawn_to01 (table01 w tables n 0) (table01 w tables n 2) (table01 w tables n 3) (count_of (table01 w tables n 0)) v u

-- "The colour table gives channel 0, 1, 2, alpha for an index (000)."
abbrev pub graphics01 : List ℕ → List ℕ → ℕ → ℕ → ℕ → ℕ → ℕ
graphics01 w tables n v u c = get_or (table01 w tables n 1) (4 * index01 w tables n v u + c) 0
