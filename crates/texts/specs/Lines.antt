-- Text cut into lines, whole and as it comes in blocks of bytes: 01 "Sheet program and host entry". The
-- laws that tie the two are proved in `proofs/`. Assumes nothing.
use Rattle.std.specs.Prelude.{ℕ, ◌+◌, Bool, List, [], ◌∷◌, ◌++◌, length, take, ltb, eqb}
use Rattle.octets.specs.Bytes.{index_of}
use Rattle.lists.specs.Choice.{pick, choose}

-- "Lines end with a line feed"
abbrev pub line_feed : ℕ
line_feed = 10

-- "Lines end with a line feed; a last line without one counts if it has any byte.": the lines of a
-- text whose first line has begun with x
unfoldable pub lines_from : List ℕ → List ℕ → List (List ℕ)
lines_from x [] = choose (eqb (length x) 0) [] (x ∷ [])
lines_from x (y ∷ rest) = choose (eqb y line_feed) (x ∷ lines_from [] rest) (lines_from (x ++ y ∷ []) rest)

-- ---- a line that comes in blocks: n of its bytes are kept at most

-- what is kept of one that began with x and goes on with l
abbrev pub kept_of : ℕ → List ℕ → List ℕ → List ℕ
kept_of n x l = take n (x ++ l)

-- whether a line ends in the bytes l
unfoldable pub ends_in : List ℕ → Bool
ends_in l = ltb (index_of line_feed l) (length l)

-- what has come, with them, of one that began with x
unfoldable pub line_in : ℕ → List ℕ → List ℕ → List ℕ
line_in n x l = kept_of n x (take (index_of line_feed l) l)

-- what has come of the next line
abbrev pub held_in : ℕ → List ℕ → List ℕ → List ℕ
held_in n x l = choose (ends_in l) [] (line_in n x l)

-- how many of the bytes are used up, the line feed with them
abbrev pub used_in : List ℕ → ℕ
used_in l = pick (ends_in l) (index_of line_feed l + 1) (length l)
