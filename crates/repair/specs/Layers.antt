-- A step for each layer in turn. Assumes nothing.
use Rattle.std.specs.Prelude.{ℕ, zero, suc, ◌≡◌, List}

-- the words w, after the steps that R allows for layers 0 to k - 1, in that order, are r
unfoldable pub Steps : (ℕ → List ℕ → List ℕ → Type 0) → ℕ → List ℕ → List ℕ → Type 0
Steps R zero w r = r ≡ w
Steps R (suc k) w r = (v : List ℕ) × Steps R k w v × R k v r
