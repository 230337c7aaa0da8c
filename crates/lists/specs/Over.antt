-- A list put in place of the front of another: what a buffer holds once it is written. Assumes nothing.
use Rattle.std.specs.Prelude.{ℕ, List, ◌++◌, length, drop}

-- a, and then b from behind as many elements as a has
unfoldable pub over : List ℕ → List ℕ → List ℕ
over a b = a ++ drop (length a) b
