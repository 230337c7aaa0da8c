-- No two outcomes meet a promise. `Post` is the function's own `ensures`, as the check reads it in
-- `src/lib.rt`: of the arguments i, the answer a or b, and the arguments at exit, e or f. Assumes nothing.
use mathlib.Core.Path.{◌≡◌}
use Rattle.lists.proofs.Choice.{meet}
use Rattle.answers.proofs.answer_of.Reads as AnswerOf
use Rattle.answers.proofs.Refusal.number.Reads as Number

pub number-unique : (κs i a b e f : _) → Number.Post κs i a e → Number.Post κs i b f → a ≡ b
number-unique κs i a b e f p q = meet p q

pub answer-of-unique : (κs i a b e f : _) → AnswerOf.Post κs i a e → AnswerOf.Post κs i b f → a ≡ b
answer-of-unique κs i a b e f p q = meet p q
