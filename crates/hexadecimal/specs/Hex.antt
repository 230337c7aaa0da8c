-- Hexadecimal read and printed, two digits a byte, the upper one first: 01 "Sheet program and host
-- entry". Assumes nothing.
use Rattle.std.specs.Prelude.{ℕ, ◌+◌, ◌-◌, ◌*◌, ◌/◌, ◌%◌, Bool, true, false, List, [], ◌∷◌, ltb}
use Rattle.lists.specs.Choice.{pick, both}

-- "input digits may be either": the value of `0` to `9` (48 to 57), `A` to `F` (65 to 70), `a` to
-- `f` (97 to 102); 16 of any other byte
unfoldable pub value_of : ℕ → ℕ
value_of c =
    pick (ltb c 48) 16
    (pick (ltb c 58) (c - 48)
    (pick (ltb c 65) 16
    (pick (ltb c 71) (c - 55)
    (pick (ltb c 97) 16
    (pick (ltb c 103) (c - 87) 16)))))

-- "Any other byte .. is bad form": whether a text is of digits alone, two for each byte
unfoldable pub is_hex : List ℕ → Bool
is_hex [] = true
is_hex (a ∷ []) = false
is_hex (a ∷ b ∷ rest) = both (ltb (value_of a) 16) (both (ltb (value_of b) 16) (is_hex rest))

-- the bytes that the digits stand for
unfoldable pub bytes_in : List ℕ → List ℕ
bytes_in [] = []
bytes_in (a ∷ []) = []
bytes_in (a ∷ b ∷ rest) = (16 * value_of a + value_of b) ∷ bytes_in rest

-- "Output is upper case": the digit of a value below 16
unfoldable pub digit_of : ℕ → ℕ
digit_of n = pick (ltb n 10) (48 + n) (55 + n)

-- the digits of bytes
unfoldable pub digits_of : List ℕ → List ℕ
digits_of [] = []
digits_of (x ∷ rest) = digit_of (x / 16) ∷ digit_of (x % 16) ∷ digits_of rest
