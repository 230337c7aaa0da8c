-- Choices by a test. Numbers have one of their own, since a numeral takes its type from where it
-- stands. Assumes nothing.
use Rattle.std.specs.Prelude.{ℕ, Bool, true, false, not, eqb}

-- a where the test holds, else b
abbrev pub pick : Bool → ℕ → ℕ → ℕ
pick true a b = a
pick false a b = b

-- the same of anything else: of lists, of states, of what a line leaves
abbrev pub choose : {A : Type 0} → Bool → A → A → A
choose true a b = a
choose false a b = b

-- a and b
abbrev pub both : Bool → Bool → Bool
both true b = b
both false b = false

-- a or b
abbrev pub either : Bool → Bool → Bool
either true b = true
either false b = b

-- a and b, or neither
abbrev pub agree : Bool → Bool → Bool
agree true b = b
agree false b = not b

-- the first that is not 0, of a and then b: of two refusals the earlier
abbrev pub or_else : ℕ → ℕ → ℕ
or_else a b = pick (eqb a 0) b a
