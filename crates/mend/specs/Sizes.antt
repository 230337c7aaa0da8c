-- The numbers of a line and of what it prints, each once (house). Assumes nothing.
use Rattle.std.specs.Prelude.{ℕ, ◌+◌, ◌*◌, ◌/◌}

-- one image a line, as so many hexadecimal digits
abbrev pub image_digits : ℕ
image_digits = 416

-- two digits for each byte
abbrev pub image_bytes : ℕ
image_bytes = image_digits / 2

-- of a line so many bytes are kept, one more than is good, so that one that is too long stays so
abbrev pub image_kept : ℕ
image_kept = image_digits + 1

-- a changed word in the list: register (2 digits), old value (8), new value (8)
abbrev pub change_len : ℕ
change_len = 9

-- every word may change
abbrev pub most_changes : ℕ
most_changes = 52

-- the bytes of the longest reply: answer, image and list
abbrev pub longest_reply : ℕ
longest_reply = 1 + image_bytes + change_len * most_changes

-- two digits for each of them, and the line feed
abbrev pub longest_line : ℕ
longest_line = 2 * longest_reply + 1
