-- The numbers of a line and of what it prints, each once: 01 "Sheet program and host entry". Assumes nothing.
use Rattle.std.specs.Prelude.{ℕ, ◌+◌, ◌*◌, ◌/◌}

-- "at most 8,192 digits"
abbrev pub most_digits : ℕ
most_digits = 8192

-- two digits for each byte
abbrev pub most_bytes : ℕ
most_bytes = most_digits / 2

-- "At most 4,096 output bytes are lent"
abbrev pub most_lent : ℕ
most_lent = 4096

-- "answer (2); after 00 also error word (8), width (4), height (4)": what stands before the bytes of a reply
abbrev pub head_len : ℕ
head_len = 9

-- the bytes of the longest reply
abbrev pub most_reply : ℕ
most_reply = head_len + most_lent

-- two digits for each of them, and the line feed
abbrev pub most_printed : ℕ
most_printed = 2 * most_reply + 1
