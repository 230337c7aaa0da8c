-- A loop that leaves at the first refusal by `?`, and a row of such checks. Assumes nothing.
use mathlib.Core.Path.{◌≡◌, ◌∙◌}
use Prim.Native.Nat.{ℕ, ◌<◌}
use Rattle.std.specs.Prelude.{Result}
use Rattle.std.specs.Result.{IsErrAnd}
use Rattle.lists.specs.Runs.{first_of}
use Rattle.lists.proofs.First.{first-none, first_passes, first_stops, first_ends}
use Rattle.lists.proofs.Tests.{tests}
use Rattle.answers.specs.declared.Refusal.{Refusal}
use Rattle.answers.specs.Refusals.{number_of, answer_of}
use Rattle.answers.proofs.Outcomes.{number_of-not_0, answer_of-handed_on, earlier, later}

-- none before i refuses, and f i is r's number: it is the first of n
pub stops : (n : ℕ) (f : ℕ → ℕ) (i : ℕ) (r : Refusal) (o : Result Unit Refusal) → first_of i f ≡ 0 → i < n
    → number_of r ≡ f i → IsErrAnd o (λ y. y ≡ r) → answer_of o ≡ first_of n f
stops n f i r o p h e k = answer_of-handed_on o r k ∙ first_stops f i n (number_of r) h p e (number_of-not_0 r)

-- what a turn and the end of such a loop ask, a row of checks, and a test
pub ruleset passing = (first-none, first_passes, first_ends, earlier, later, tests)
