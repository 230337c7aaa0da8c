-- The bytes of numbers of four, the lowest first. Assumes nothing.
use Rattle.std.specs.Prelude.{ℕ, ◌/◌, ◌%◌, ◌^◌, List, get_or}

-- byte k of a word
unfoldable pub little_byte : ℕ → ℕ → ℕ
little_byte v k = v / 256 ^ k % 256

-- byte i of a row of words
unfoldable pub little_bytes : List ℕ → ℕ → ℕ
little_bytes w i = little_byte (get_or w (i / 4) 0) (i % 4)
