-- The first zero of a row of numbers: where a list is left at its end mark. Assumes nothing.
use Rattle.std.specs.Prelude.{ℕ, zero, suc, ◌+◌, eqb}
use Rattle.lists.specs.Choice.{pick}

-- the first of the n indexes from k on at which f is 0; k + n where none is
unfoldable pub zero_from : ℕ → (ℕ → ℕ) → ℕ → ℕ
zero_from zero f k = k
zero_from (suc n) f k = pick (eqb (f k) 0) k (zero_from n f (k + 1))
