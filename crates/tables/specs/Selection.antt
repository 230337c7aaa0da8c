-- What a selection selects, and the active banks: 01 "Tables", over the bits a glyph pixel has. Assumes nothing.
use Rattle.std.specs.Prelude.{ℕ, ◌/◌, ◌%◌, Bool, List, eqb}
use Rattle.words.specs.Fields.{active_bank_of}
use Rattle.tables.specs.Geometry.{kind_len, bank_at}

-- 01 "Tables": "A selection is a number 0..63: bits 5:3 controller (001)"
abbrev pub controller_of : ℕ → ℕ
controller_of selection = selection / 8 % 8

-- "bits 2:1 kind (0 instruction, 1 colour, 2 text, 3 font)"
abbrev pub kind_of : ℕ → ℕ
kind_of selection = selection / 2 % 4

-- "bit 0 bank."
abbrev pub bank_of : ℕ → ℕ
bank_of selection = selection % 2

-- 01 "Answers by number", 5: "the kind's end"
abbrev pub end_of : ℕ → ℕ → ℕ
end_of bits selection = kind_len bits (kind_of selection)

-- where in the buffer the first byte of the selected table stands
abbrev pub first_byte_of : ℕ → ℕ → ℕ
first_byte_of bits selection = bank_at bits (controller_of selection) (bank_of selection) (kind_of selection)

-- 01 "Answers by number", 4: "the active word 3 names the selected bank"
abbrev pub named_by : List ℕ → ℕ → Bool
named_by w selection = eqb (active_bank_of w (controller_of selection) (kind_of selection)) (bank_of selection)

-- where the bank begins that word 3 names
abbrev pub active_at : ℕ → List ℕ → ℕ → ℕ → ℕ
active_at bits w g kind = bank_at bits g (active_bank_of w g kind) kind
