-- Where the parts of a line's bytes stand: 01 "Sheet program and host entry". A byte past the end counts as 0 and
-- each part moves the place on, so a line that is too short for its parts ends past its length. Assumes nothing.
use Rattle.std.specs.Prelude.{ℕ, zero, suc, ◌+◌, ◌*◌, Bool, List, length, get_or, eqb}

-- a number of two digits
abbrev pub byte_at : List ℕ → ℕ → ℕ
byte_at b at = get_or b at 0

-- a number of four digits, the most significant first
unfoldable pub count_at : List ℕ → ℕ → ℕ
count_at b at = 256 * byte_at b at + byte_at b (at + 1)

-- a number of eight digits
unfoldable pub word_at : List ℕ → ℕ → ℕ
word_at b at = 65536 * count_at b at + count_at b (at + 2)

-- "two digits for the number of loads"
abbrev pub loads_of : List ℕ → ℕ
loads_of b = byte_at b 0

-- "each load being selection (2), byte count (4), bytes": where the n loads that begin at a place end
unfoldable pub past_loads : ℕ → List ℕ → ℕ → ℕ
past_loads zero b at = at
past_loads (suc n) b at = past_loads n b (at + 3 + count_at b (at + 1))

-- "two digits for the number of writes": where they stand
unfoldable pub writes_place : List ℕ → ℕ
writes_place b = past_loads (loads_of b) b 1

-- "each register (2), value (8); picture byte count (4)": where the count stands
unfoldable pub picture_place : List ℕ → ℕ
picture_place b = writes_place b + 1 + 5 * byte_at b (writes_place b)

-- "bytes": where they end
unfoldable pub end_place : List ℕ → ℕ
end_place b = picture_place b + 2 + count_at b (picture_place b)

-- "anything after the picture bytes, is bad form", and anything missing: the line ends where they do
unfoldable pub is_formed : List ℕ → Bool
is_formed b = eqb (end_place b) (length b)
