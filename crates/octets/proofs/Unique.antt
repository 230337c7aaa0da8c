-- No two outcomes meet a function's promise. `Post` is the function's own `ensures`, as the check reads it in
-- `src/lib.rt`: of the arguments i, the answer a or b, and the arguments at exit, e or f. Assumes nothing.
use mathlib.Core.Path.{◌≡◌}
use Rattle.lists.proofs.Choice.{meet}
use Rattle.octets.proofs.find.Reads as Find
use Rattle.octets.proofs.copy.Reads as Copy

pub find-unique : (κs i a b e f : _) → Find.Post κs i a e → Find.Post κs i b f → a ≡ b
find-unique κs i a b e f p q = meet p.0 q.0

pub copy-unique : (κs i a b e f : _) → Copy.Post κs i a e → Copy.Post κs i b f → e.1.0.now ≡ f.1.0.now
copy-unique κs i a b e f p q = meet p q
