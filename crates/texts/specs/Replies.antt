-- Numbers as bytes and bytes as a printed line: 01 "Sheet program and host entry". Assumes nothing.
use Rattle.std.specs.Prelude.{ℕ, ◌/◌, ◌%◌, List, [], ◌∷◌, ◌++◌}
use Rattle.hexadecimal.specs.Hex.{digits_of}
use Rattle.texts.specs.Lines.{line_feed}

-- a number of four digits as bytes
abbrev pub two_bytes : ℕ → List ℕ
two_bytes n = n / 256 % 256 ∷ n % 256 ∷ []

-- a number of eight digits as bytes
abbrev pub four_bytes : ℕ → List ℕ
four_bytes n = n / 16777216 % 256 ∷ n / 65536 % 256 ∷ n / 256 % 256 ∷ n % 256 ∷ []

-- "prints FE"
abbrev pub bad_form : ℕ
bad_form = 254

-- the text of a reply: its digits, and the line feed that ends it
unfoldable pub reply_text : List ℕ → List ℕ
reply_text reply = digits_of reply ++ line_feed ∷ []
