-- The byte of a float, and a buffer of floats read as bytes: 02 K7. The value of `fin s m e` is the fraction
-- m * up e over down e, negative where s is true, so that no float is computed with. Assumes nothing.
use Rattle.std.specs.Prelude.{ℕ, ◌+◌, ◌*◌, ◌/◌, List, [], ◌∷◌, map, leb, Float}
use Rattle.std.specs.Float.{nan, inf, fin}
use Rattle.std.specs.Float.Ieee.{up, down}
use Rattle.lists.specs.Choice.{pick}
use Rattle.river.specs.declared.Pixel.{Pixel}

-- "at least 1 becomes 255; any other becomes the whole number nearest to 255 times its exact value, halves
-- upward", of the value a / c
unfoldable pub byte_of_fraction : ℕ → ℕ → ℕ
byte_of_fraction a c = pick (leb c a) 255 ((2 * 255 * a + c) / (2 * c))

-- "A value that is not a number, or is at most 0, becomes 0", else the above of its value: "The exact value
-- is the one its bits stand for, as a fraction of whole numbers."
unfoldable pub byte_of : Float → ℕ
unfolding byte_of_fraction
byte_of nan = 0
byte_of (inf s) = pick s 0 255
byte_of (fin s m e) = pick s 0 (byte_of_fraction (m * up e) (down e))

-- "f32 pixels of four values, red, green, blue and alpha", as bytes
abbrev pub bytes_of : Pixel → List ℕ
bytes_of p = byte_of p.red ∷ byte_of p.green ∷ byte_of p.blue ∷ byte_of p.alpha ∷ []

-- "Demands 2 and 3 read a float layer by these bytes."
abbrev pub bytes_from : List Float → List ℕ
bytes_from s = map byte_of s
