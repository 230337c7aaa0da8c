-- What n indexes give together: a first refusal, a sum, steps in a row. Each recurses at the upper
-- end, so that a loop that counts up adds one turn. Assumes nothing.
use Rattle.std.specs.Prelude.{ℕ, zero, suc, ◌+◌}
use Rattle.lists.specs.Choice.{or_else}

-- the first that is not 0 among f 0, f 1, .. f (n - 1); 0 where none is
unfoldable pub first_of : ℕ → (ℕ → ℕ) → ℕ
first_of zero f = 0
first_of (suc n) f = or_else (first_of n f) (f n)

-- f 0 + f 1 + .. + f (n - 1)
unfoldable pub sum_of : ℕ → (ℕ → ℕ) → ℕ
sum_of zero f = 0
sum_of (suc n) f = sum_of n f + f n

-- p after the steps f a, f (a + 1), .. f (a + k - 1), in that order
unfoldable pub run : {A : Type 0} → ℕ → ℕ → (ℕ → A → A) → A → A
run a zero f p = p
run a (suc k) f p = f (a + k) (run a k f p)
