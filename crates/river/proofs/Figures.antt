-- Worked figures: floats, each by its pattern of 32 bits, and two fractions, with their bytes. Assumes nothing.
use mathlib.Core.Path.{◌≡◌, refl}
use lib.Ieee.{binary32, of_bits}
use Rattle.river.specs.River.{byte_of_fraction, byte_of}

-- 02 K7: "0.5 gives 128"
pub half : byte_of (of_bits binary32 0x3f00_0000) ≡ 128
unfolding byte_of of_bits
half = refl

-- 1, the largest number below it, the largest of all, and infinity
pub high : (byte_of (of_bits binary32 0x3f80_0000) ≡ 255) × (byte_of (of_bits binary32 0x3f7f_ffff) ≡ 255)
    × (byte_of (of_bits binary32 0x7f7f_ffff) ≡ 255) × (byte_of (of_bits binary32 0x7f80_0000) ≡ 255)
unfolding byte_of of_bits
high = (refl, refl, refl, refl)

-- 0, -0, the smallest number above 0, -1, and minus infinity
pub low : (byte_of (of_bits binary32 0) ≡ 0) × (byte_of (of_bits binary32 0x8000_0000) ≡ 0)
    × (byte_of (of_bits binary32 1) ≡ 0) × (byte_of (of_bits binary32 0xbf80_0000) ≡ 0)
    × (byte_of (of_bits binary32 0xff80_0000) ≡ 0)
unfolding byte_of of_bits
low = (refl, refl, refl, refl, refl)

-- what is not a number, with either sign
pub no_number : (byte_of (of_bits binary32 0x7fc0_0000) ≡ 0) × (byte_of (of_bits binary32 0xffc0_0000) ≡ 0)
unfolding byte_of of_bits
no_number = (refl, refl)

-- the last below 1 / 510, and the first above it
pub border : (byte_of (of_bits binary32 0x3b00_8080) ≡ 0) × (byte_of (of_bits binary32 0x3b00_8081) ≡ 1)
unfolding byte_of of_bits
border = (refl, refl)

-- Halves go upward. 255 * v is one for v = (2 * j + 1) / 510, and that is a float only where 255 divides 2 * j + 1, at
-- 0.5 alone: between 127 and 128, where "to the even one" says the same. So no float tells the two rules apart, but
-- fractions do: 1 / 510 lies between 0 and 1.
pub halves : (byte_of_fraction 255 510 ≡ 128) × (byte_of_fraction 1 510 ≡ 1)
unfolding byte_of_fraction
halves = (refl, refl)

-- 0.75, and 255 * 0.75 is 191.25
pub three_quarters : byte_of (of_bits binary32 0x3f40_0000) ≡ 191
unfolding byte_of of_bits
three_quarters = refl
