-- A value put between two ends, a pixel of a row of floats, and a row with pixels written. Assumes nothing.
use Rattle.std.specs.Prelude.{ℕ, ◌+◌, ◌*◌, ◌%◌, ◌≤◌, ◌<◌, ◌≡◌, List, length, get_or, set, Float}
use Rattle.std.specs.Float.{nan, binary32}
use Rattle.std.specs.Float.Ieee.{lt, of_bits}
use Rattle.lists.specs.Choice.{choose}
use Rattle.mix.specs.Pixel.{pixel_len}
use Rattle.river.specs.declared.Pixel.{Pixel}
use Rattle.river.specs.River.{byte_of}

-- the ends: 2 ^ -9, up to which every byte is 0, and 1, from which on every byte is 255
abbrev pub least : Float
least = of_bits binary32 0x3b00_0000

abbrev pub most : Float
most = of_bits binary32 0x3f80_0000

unfoldable pub at_least : Float → Float
at_least x = choose (lt least x) x least

unfoldable pub at_most : Float → Float
at_most x = choose (lt x most) x most

-- the pixel of a row of floats whose first value stands at i
abbrev pub pixel_at : List Float → ℕ → Pixel
pixel_at s i =
    record { red = get_or s i nan; green = get_or s (i + 1) nan; blue = get_or s (i + 2) nan; alpha = get_or s (i + 3) nan }

-- a row with the bytes of a pixel from i on
unfoldable pub written : List ℕ → ℕ → Pixel → List ℕ
written l i p =
    set (set (set (set l i (byte_of p.red)) (i + 1) (byte_of p.green)) (i + 2) (byte_of p.blue)) (i + 3)
    (byte_of p.alpha)

-- the bytes of four pixels, and a row with these
abbrev pub four_len : ℕ
four_len = 4 * pixel_len

abbrev pub four_written : List ℕ → ℕ → Pixel → Pixel → Pixel → Pixel → List ℕ
four_written l i p0 p1 p2 p3 =
    written (written (written (written l i p0) (i + pixel_len) p1) (i + 2 * pixel_len) p2) (i + 3 * pixel_len) p3

-- the row l begins with the bytes of the floats s, up to k, which is at a pixel's border
pub record Front (s : List Float) (l : List ℕ) (k : ℕ) : Type 0 where
  pub long : length l ≡ length s
  pub most : k ≤ length l
  pub border : k % pixel_len ≡ 0
  pub bytes : (i : ℕ) → i < k → get_or l i 0 ≡ byte_of (get_or s i nan)
