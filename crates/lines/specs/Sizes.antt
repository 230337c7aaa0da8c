-- The numbers of a sheet that comes in blocks, each once. Assumes nothing.
use Rattle.std.specs.Prelude.{ℕ, ◌+◌}
use Rattle.line.specs.Sizes.{most_digits}

-- of a line so many bytes are kept, one more than is good, so that one that is too long stays so
abbrev pub most_kept : ℕ
most_kept = most_digits + 1

-- what a call on a block may print at most (house)
abbrev pub out_len : ℕ
out_len = 65536
