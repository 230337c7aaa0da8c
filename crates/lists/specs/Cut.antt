-- A list with a part taken out. Assumes nothing.
use Rattle.std.specs.Prelude.{ℕ, ◌+◌, List, ◌++◌, take, drop}

-- the list without the n elements from o on
abbrev pub cut : {A : Type 0} → ℕ → ℕ → List A → List A
cut o n l = take o l ++ drop (o + n) l
