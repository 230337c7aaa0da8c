-- What a start makes of the pending words, on the way to `start_of`. Assumes nothing.
use Rattle.std.specs.Prelude.{ℕ, Bool, false, List, ◌==◌, Result, Ok, Err}
use Rattle.lists.specs.Choice.{pick, both}
use Rattle.answers.specs.declared.Refusal.{Refusal}
use Rattle.answers.specs.Answers.{done}
use Rattle.answers.specs.Refusals.{number_of}
use Rattle.words.specs.Fields.{update_of}
use Rattle.words.specs.Check.{check_of}

-- whether they become the active ones, and the answer
pub record Verdict : Type 0 where
  pub passes : Bool
  pub answer : ℕ

-- of an outcome
abbrev pub verdict_by : Result Bool Refusal → Verdict
verdict_by (Ok passes) = record { passes = passes; answer = done }
verdict_by (Err refusal) = record { passes = false; answer = number_of refusal }

-- where float layers are let in or not
abbrev pub verdict_of : Bool → List ℕ → Verdict
verdict_of floats w =
    record { passes = both (update_of w) (check_of floats w == done); answer = pick (update_of w) (check_of floats w) done }
