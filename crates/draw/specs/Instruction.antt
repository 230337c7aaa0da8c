-- The fields of instruction k of a list of bytes: 01 "Graphics layers". A byte past the list's end
-- counts as 0. Assumes nothing.
use Rattle.std.specs.Prelude.{ℕ, ◌+◌, ◌*◌, ◌/◌, ◌%◌, ◌^◌, List, [], ◌∷◌, get_or}
use Rattle.lists.specs.Little.{little_at}
use Rattle.tables.specs.Geometry.{instruction_len, colours}

-- 01 "Graphics layers": "scale 31:30 (1, 2, 4, 8)"
unfoldable pub scale_of : ℕ → ℕ
scale_of n = get_or (1 ∷ 2 ∷ 4 ∷ 8 ∷ []) n 0

-- "An instruction is four little-endian words": word j of instruction k
abbrev pub word_of : List ℕ → ℕ → ℕ → ℕ
word_of ins k j = little_at ins (instruction_len * k + 4 * j)

module _ (ins : List ℕ) (k : ℕ) where
  -- "word 0: opcode 31:28"
  abbrev pub opcode : ℕ
  opcode = word_of ins k 0 / 2 ^ 28

  -- "x end 23:12"
  abbrev pub x_end : ℕ
  x_end = word_of ins k 0 / 2 ^ 12 % 2 ^ 12

  -- "x start 11:0"
  abbrev pub x_start : ℕ
  x_start = word_of ins k 0 % 2 ^ 12

  -- "word 1: string number 7:0"
  abbrev pub string : ℕ
  string = word_of ins k 1 % 2 ^ 8

  -- "word 2: scale 31:30 (1, 2, 4, 8)"
  abbrev pub scale : ℕ
  scale = scale_of (word_of ins k 2 / 2 ^ 30)

  -- "outline weight 27:24"
  abbrev pub weight : ℕ
  weight = word_of ins k 2 / 2 ^ 24 % 2 ^ 4

  -- "y end 23:12"
  abbrev pub y_end : ℕ
  y_end = word_of ins k 2 / 2 ^ 12 % 2 ^ 12

  -- "y start 11:0"
  abbrev pub y_start : ℕ
  y_start = word_of ins k 2 % 2 ^ 12

  -- "word 3: box colour 7:0, .. each taken modulo 16"
  abbrev pub box_colour : ℕ
  box_colour = word_of ins k 3 % 2 ^ 8 % colours

  -- "text colour 15:8, each taken modulo 16"
  abbrev pub text_colour : ℕ
  text_colour = word_of ins k 3 / 2 ^ 8 % 2 ^ 8 % colours
