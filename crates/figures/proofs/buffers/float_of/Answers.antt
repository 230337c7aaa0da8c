-- `figures::buffers::float_of` meets its contract: the test turns away the patterns above an infinity's, and no
-- other is a NaN's (`nan_bits_above`). Assumes nothing.
use Rattle.std.proofs.Common.{ℕ, ◌%◌, ◌≤◌, not, T, rules, le-ltb}
use lib.Ieee.{binary32, nan_bits}
use lib.Ieee.Bits.{nan_bits_above}
use Rattle.figures.proofs.buffers.float_of.Goals as goal

number-bits : (n : ℕ) → n % 0x8000_0000 ≤ 0x7f80_0000 → T (not (nan_bits binary32 n))
number-bits n p = rw (nan_bits_above binary32 n, le-ltb 0x7f80_0000 (n % 0x8000_0000) p) tt

pub float_from_bits-result : goal.float_from_bits-result
float_from_bits-result c = search (number-bits, rules)
