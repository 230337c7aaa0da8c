-- What `texts::gather` answers, and what block after block leaves. Assumes nothing.
use Rattle.std.specs.Prelude.{ℕ, List, [], ◌∷◌, ◌++◌, length, take, eqb}
use Rattle.lists.specs.Choice.{choose}
use Rattle.texts.specs.declared.Gathered.{Gathered}
use Rattle.texts.specs.Lines.{line_feed, ends_in, line_in, used_in}

-- what has come of a line of which the first `held` bytes stood in the buffer u, with the bytes l: all of u is for it
abbrev pub line_with : List ℕ → ℕ → List ℕ → List ℕ
line_with u held l = line_in (length u) (take held u) l

-- how long it is, how many of the bytes are used up, and whether it has ended
abbrev pub gathered_of : List ℕ → ℕ → List ℕ → Gathered
gathered_of u held l = record { kept = length (line_with u held l); used = used_in l; ended = ends_in l }

-- what has come of the line after those of a text (`lines_from`) whose first line has begun with x: nothing,
-- where it ends in a line feed
unfoldable pub open_from : List ℕ → List ℕ → List ℕ
open_from x [] = x
open_from x (y ∷ rest) = choose (eqb y line_feed) (open_from [] rest) (open_from (x ++ y ∷ []) rest)
