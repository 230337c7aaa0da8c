-- The 52 words with a field of one layer replaced: 01 "Registers", layer n's words 4+6n, 6+6n and 7+6n.
-- Assumes nothing.
use Rattle.std.specs.Prelude.{ℕ, ◌+◌, ◌*◌, ◌/◌, ◌%◌, List, get_or, set}

-- ---- a word with a field replaced, its other bits kept

-- "bit 0 enabled": cleared
abbrev pub off_word : ℕ → ℕ
off_word v = v / 2 * 2

-- 02 K7, bit 2, a picture of floats: cleared
abbrev pub bytes_word : ℕ → ℕ
bytes_word v = v / 8 * 8 + v % 4

-- "depth 10:8": d
abbrev pub depth_word : ℕ → ℕ → ℕ
depth_word v d = v / 2048 * 2048 + d * 256 + v % 256

-- "x 11:0, y 27:16", "width 11:0, height 27:16": a and b
abbrev pub pair_word : ℕ → ℕ → ℕ → ℕ
pair_word v a b = v / 268435456 * 268435456 + b * 65536 + v / 4096 % 16 * 4096 + a

-- ---- the words with layer n's replaced

-- switched off
unfoldable pub with_off : List ℕ → ℕ → List ℕ
with_off w n = set w (4 + 6 * n) (off_word (get_or w (4 + 6 * n) 0))

-- with a picture of bytes
unfoldable pub with_bytes : List ℕ → ℕ → List ℕ
with_bytes w n = set w (4 + 6 * n) (bytes_word (get_or w (4 + 6 * n) 0))

-- at depth d
unfoldable pub with_depth : List ℕ → ℕ → ℕ → List ℕ
with_depth w n d = set w (4 + 6 * n) (depth_word (get_or w (4 + 6 * n) 0) d)

-- with a and b in its word j+6n: x and y in 6+6n, width and height in 7+6n
unfoldable pub with_pair : ℕ → List ℕ → ℕ → ℕ → ℕ → List ℕ
with_pair j w n a b = set w (j + 6 * n) (pair_word (get_or w (j + 6 * n) 0) a b)
