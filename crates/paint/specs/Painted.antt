-- What painting answers and leaves. Assumes nothing.
use Rattle.std.specs.Prelude.{ℕ, Bool, List, eqb, Result, Ok, Err}
use Rattle.lists.specs.Choice.{choose}
use Rattle.answers.specs.Answers.{done}
use Rattle.answers.specs.Refusals.{number_of}
use Rattle.answers.specs.declared.Refusal.{Refusal}
use Rattle.frames.specs.Scene.{Scene}
use Rattle.frames.specs.Band.{band_of}
use Rattle.frames.specs.Frame.{refusal_of, fill_of, errors_after}
use Rattle.frames.specs.Line.{line_refusal_of, line_errors_after}

-- 0 or the number of the refusal, and the error word afterwards
pub record Painted : Type 0 where
  pub answer : ℕ
  pub errors : ℕ

abbrev pub answered : ℕ → ℕ → Painted
answered answer errors = record { answer = answer; errors = errors }

-- of an outcome, where the error word was this: one that is no refusal gives the error word afterwards
abbrev pub painted_by : Result ℕ Refusal → ℕ → Painted
painted_by (Ok after) errors = answered done after
painted_by (Err refusal) errors = answered (number_of refusal) errors

-- ---- a band

-- what a band over an output answers, where the error word was this
abbrev pub told_of : Scene → ℕ → ℕ → List ℕ → ℕ → Painted
told_of s a b out errors = answered (refusal_of s a b out) (errors_after s a b out errors)

-- the output after it, over the background where `fresh`, else over what stood there
abbrev pub output_of : Scene → ℕ → ℕ → Bool → List ℕ → List ℕ
output_of s a b fresh out =
    choose (eqb (refusal_of s a b out) done) (band_of s a b (choose fresh (fill_of s.words) out)) out

-- ---- a line

-- what line y of a whole frame answers
abbrev pub line_told_of : Scene → ℕ → List ℕ → ℕ → Painted
line_told_of s y out errors = answered (line_refusal_of s y out) (line_errors_after s y out errors)
