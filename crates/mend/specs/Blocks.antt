-- An input that comes in blocks of bytes: what one call makes of the bytes that are left of a block, and
-- calls in a row. The law that ties them to `Line` is proved in `proofs/`. Assumes nothing.
use Rattle.std.specs.Prelude.{ℕ, List, [], ◌++◌, length, drop, eqb}
use Rattle.lists.specs.Choice.{choose}
use Rattle.texts.specs.Lines.{ends_in, line_in, held_in, used_in}
use Rattle.mend.specs.declared.Answered.{Answered}
use Rattle.mend.specs.Sizes.{image_kept}
use Rattle.mend.specs.Line.{mend_line}

-- a line that began with x prints its answer once it has ended in the bytes l
unfoldable pub fed_text : List ℕ → List ℕ → List ℕ
fed_text x l = choose (ends_in l) (mend_line (line_in image_kept x l)) []

-- "a last line without one counts if it has any byte" (01): x is what has come of it
unfoldable pub last_text : List ℕ → List ℕ
last_text x = choose (eqb (length x) 0) [] (mend_line x)

-- what a call answers, of the bytes l and a line that began with x
abbrev pub answered_of : List ℕ → List ℕ → Answered
answered_of x l = record { held = length (held_in image_kept x l); used = used_in l; count = length (fed_text x l) }

-- calls, each on a block l of bytes that have come and are not yet used, whatever comes after them, and
-- then the end: of a line that began with x and the bytes that are left they print the text
pub data MendCourse : List ℕ → List ℕ → List ℕ → Type 0 where
  at-end : (x : List ℕ) → MendCourse x [] (last_text x)
  by-feed : (x l more printed : List ℕ) → MendCourse (held_in image_kept x l) (drop (used_in l) l ++ more) printed
      → MendCourse x (l ++ more) (fed_text x l ++ printed)
