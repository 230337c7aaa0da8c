-- 01 "Answers by number", row for row: the number, and when it is given; and those of 02. Assumes nothing.
use Rattle.std.specs.Prelude.{ℕ}

-- "done"
abbrev pub done : ℕ
done = 0

-- "write: register above 51"
abbrev pub no_register : ℕ
no_register = 1

-- "select: above 63"
abbrev pub no_selection : ℕ
no_selection = 2

-- "put: nothing selected"
abbrev pub not_selected : ℕ
not_selected = 3

-- "put: the active word 3 names the selected bank"
abbrev pub bank_active : ℕ
bank_active = 4

-- "put: place is at the kind's end"
abbrev pub bank_full : ℕ
bank_full = 5

-- "put, paint: tables not 29,696 bytes"; 02 K2: "6 compares with the chosen length, in the host entry with both."
abbrev pub tables_length : ℕ
tables_length = 6

-- "start: a reserved bit is set in any pending word"
abbrev pub reserved_bit : ℕ
reserved_bit = 7

-- "start: output width or height 0"
abbrev pub empty_screen : ℕ
empty_screen = 8

-- "start: enabled layer with width or height 0"
abbrev pub empty_layer : ℕ
empty_layer = 9

-- "start: enabled layer with x+width > output width, or y+height > output height"
abbrev pub off_screen : ℕ
off_screen = 10

-- "start: two enabled layers of one depth"
abbrev pub same_depth : ℕ
same_depth = 11

-- "fill, paint: active output size still 0"
abbrev pub no_size : ℕ
no_size = 12

-- "fill, paint: output not 4·width·height bytes"
abbrev pub output_length : ℕ
output_length = 13

-- "paint: pictures of the wrong total length"
abbrev pub pictures_length : ℕ
pictures_length = 14

-- "paint a band: lower end above upper, or upper above 8"
abbrev pub no_band : ℕ
no_band = 15

-- 02 K3: "15 for a line number at or past the height"
abbrev pub no_line : ℕ
no_line = no_band

-- "host entry: register image not 208 bytes"
abbrev pub image_length : ℕ
image_length = 16

-- 02 K2: "17 for a bit number other than 1 or 2 when making a state"
abbrev pub glyph_bits : ℕ
glyph_bits = 17

-- 02 K7: "18 for a float buffer of the wrong total length"
abbrev pub floats_length : ℕ
floats_length = 18

-- 23, past the numbers of 01 and 02: a door's lent state not 440 bytes
abbrev pub state_length : ℕ
state_length = 23
