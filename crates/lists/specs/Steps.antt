-- Steps along a list, and the part of a list that a test keeps. Assumes nothing.
use Rattle.std.specs.Prelude.{ℕ, Bool, List, [], ◌∷◌}
use Rattle.lists.specs.Choice.{choose}

-- p after the steps of a list's elements, the first of them first
unfoldable pub through : (ℕ → ℕ → ℕ) → List ℕ → ℕ → ℕ
through step [] p = p
through step (n ∷ l) p = through step l (step n p)

-- the elements that pass the test, in their order
unfoldable pub keep : (ℕ → Bool) → List ℕ → List ℕ
keep t [] = []
keep t (n ∷ l) = choose (t n) (n ∷ keep t l) (keep t l)
