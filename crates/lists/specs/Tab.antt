-- Lists by a rule for each index. Assumes nothing.
use Rattle.std.specs.Prelude.{ℕ, zero, suc, List, [], ◌∷◌}

-- the list of f 0, f 1, .. f (n - 1)
unfoldable pub tab : ℕ → (ℕ → ℕ) → List ℕ
tab zero f = []
tab (suc n) f = f zero ∷ tab n (λ i. f (suc i))

-- the list in which each element p, at its index i, has become g i p
unfoldable pub each : (ℕ → ℕ → ℕ) → List ℕ → List ℕ
each g [] = []
each g (p ∷ l) = g zero p ∷ each (λ i. g (suc i)) l
