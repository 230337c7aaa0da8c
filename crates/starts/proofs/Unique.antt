-- No two outcomes meet a function's promise. `Post` is the function's own `ensures`, as the check reads it
-- in `src/lib.rt`: of the arguments i, the answer a or b, and the arguments at exit, e or f. Assumes nothing.
use mathlib.Core.Path.{◌≡◌}
use Rattle.answers.proofs.Decode.{answer_of-meet}
use Rattle.starts.proofs.refusal_of.Reads as RefusalOf
use Rattle.starts.proofs.screen.Reads as screen
use Rattle.starts.proofs.clash_below.Reads as ClashBelow

pub refusal-of-unique : (κs i a b e f : _) → RefusalOf.Post κs i a e → RefusalOf.Post κs i b f → a ≡ b
refusal-of-unique κs i a b e f p q = answer_of-meet p q

pub screen-unique : (κs i a b e f : _) → screen.Post κs i a e → screen.Post κs i b f → a ≡ b
screen-unique κs i a b e f p q = answer_of-meet p q

pub clash-below-unique : (κs i a b e f : _) → ClashBelow.Post κs i a e → ClashBelow.Post κs i b f → a ≡ b
clash-below-unique κs i a b e f p q = answer_of-meet p q
