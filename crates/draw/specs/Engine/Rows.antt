-- What the workers of `src/`, `boxes` and `text` do to a row, on the way to `specs/Box.antt` and `specs/Text.antt`. No
-- definition of the document rests on these. Assumes nothing.
use Rattle.std.specs.Prelude.{◌≡◌, ℕ, ◌*◌, ◌<◌, Bool, leb, ltb, eqb}
use Rattle.lists.specs.Choice.{pick, both, either}
use Rattle.draw.specs.Text.{glyph_columns, pixel_of}

-- the colour from a up to e
unfoldable pub run_after : ℕ → ℕ → ℕ → ℕ → ℕ → ℕ
run_after a e colour u old = pick (both (leb a u) (ltb u e)) colour old

-- whether a row of a box is one run: its weight is 0, or it is near the upper or the lower side, or
-- the sides' outlines meet
unfoldable pub whole_of : ℕ → ℕ → ℕ → ℕ → Bool
whole_of k above below across = either (eqb k 0) (either (either (ltb above k) (ltb below k)) (ltb across (2 * k)))

-- a line of one bit a pixel in one colour: a mask
unfoldable pub mask_ink : ℕ → ℕ → ℕ → ℕ → ℕ
mask_ink mask colour column old = pick (eqb (pixel_of 1 mask column) 0) old colour

-- the mask has the columns in which the line's pixel is k
pub record Marks (bits line k mask : ℕ) : Type 0 where
  pub byte : mask < 256
  pub at : (column : ℕ) → column < glyph_columns → pixel_of 1 mask column ≡ pick (eqb (pixel_of bits line column) k) 1 0
