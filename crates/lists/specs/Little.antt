-- A number of four bytes, the lowest first. Assumes nothing.
use Rattle.std.specs.Prelude.{ℕ, ◌+◌, ◌*◌, ◌^◌, List, get_or}

-- the little-endian word from a place on; a byte past the end counts as 0
unfoldable pub little_at : List ℕ → ℕ → ℕ
little_at s at = get_or s at 0 + 2 ^ 8 * get_or s (at + 1) 0 + 2 ^ 16 * get_or s (at + 2) 0 + 2 ^ 24 * get_or s (at + 3) 0
