-- The four pixels of a byte, two bits each. No definition of the document rests on this. Assumes nothing.
use Rattle.std.specs.Prelude.{ℕ, ◌-◌, ◌*◌, ◌/◌, ◌%◌, ◌^◌, ◌<◌, ◌≡◌, eqb}
use Rattle.lists.specs.Choice.{pick}

-- of four columns, of which the leftmost has the highest bits, bits a column: the one at a column
abbrev pub column_of : ℕ → ℕ → ℕ → ℕ
column_of bits row column = row / 2 ^ (bits * (3 - column)) % 2 ^ bits

-- a mask of four columns has those in which the byte's pixel is k
pub record Fours (byte k mask : ℕ) : Type 0 where
  pub few : mask < 16
  pub at : (column : ℕ) → column < 4 → column_of 1 mask column ≡ pick (eqb (column_of 2 byte column) k) 1 0
