-- No two outcomes meet a function's promise. `Post` is the function's own `ensures`, as the check reads it
-- in `src/`: of the arguments i, the answer a or b, and the arguments at exit, e or f. Assumes nothing.
use mathlib.Core.Path.{◌≡◌}
use Rattle.lists.proofs.Choice.{meet}
use Rattle.profiles.proofs.bits_of.Reads as BitsOf

pub bits-of-unique : (κs i a b e f : _) → BitsOf.Post κs i a e → BitsOf.Post κs i b f → a ≡ b
bits-of-unique κs i a b e f p q = meet p.0 q.0
