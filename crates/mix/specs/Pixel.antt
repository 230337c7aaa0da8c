-- A pixel's bytes: 01 "What the display is made of". Assumes nothing.
use Rattle.std.specs.Prelude.{ℕ}

-- "A pixel is four bytes: channel 0, 1, 2, alpha (001)."
abbrev pub pixel_len : ℕ
pixel_len = 4

-- the channels
abbrev pub channels : ℕ
channels = 3

-- the place of the alpha, behind the channels
abbrev pub alpha_place : ℕ
alpha_place = channels

-- "Output alpha is always 255 once filled."
abbrev pub opaque : ℕ
opaque = 255
