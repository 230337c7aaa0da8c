-- What was changed: 02 K4, "It lists the old and new value of each changed word, in register order." Three
-- numbers a word: its register, its old value, its new one. Assumes nothing.
use Rattle.std.specs.Prelude.{ℕ, zero, suc, Bool, List, [], ◌∷◌, ◌++◌, get_or, set, eqb}
use Rattle.lists.specs.Choice.{pick, choose}
use Rattle.lists.specs.Runs.{sum_of}

-- of word i, from the words a to the words b
abbrev pub change_at : List ℕ → List ℕ → ℕ → List ℕ
change_at a b i = choose (eqb (get_or a i 0) (get_or b i 0)) [] (i ∷ get_or a i 0 ∷ get_or b i 0 ∷ [])

-- of words 0 to i - 1
unfoldable pub changes_below : List ℕ → List ℕ → ℕ → List ℕ
changes_below a b zero = []
changes_below a b (suc i) = changes_below a b i ++ change_at a b i

unfoldable pub changes_of : List ℕ → List ℕ → List ℕ
changes_of a b = changes_below a b 52

-- how many words they are of
abbrev pub changed_at : List ℕ → List ℕ → ℕ → ℕ
changed_at a b i = pick (eqb (get_or a i 0) (get_or b i 0)) 0 1

unfoldable pub changed_of : List ℕ → List ℕ → ℕ
changed_of a b = sum_of 52 (changed_at a b)

-- a list applied to words: its new values where `forth`, else its old ones
unfoldable pub put_by : Bool → List ℕ → List ℕ → List ℕ
put_by forth [] w = w
put_by forth (i ∷ []) w = w
put_by forth (i ∷ old ∷ []) w = w
put_by forth (i ∷ old ∷ new ∷ rest) w = put_by forth rest (set w i (pick forth new old))
