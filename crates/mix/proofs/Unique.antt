-- No two outcomes meet a function's promise. `Post` is the function's own `ensures`, as the check reads it
-- in `src/lib.rt`: of the arguments i, the answer a or b, and the arguments at exit, e or f. Assumes
-- nothing.
use Rattle.std.proofs.Common.{◌≡◌}
use Rattle.lists.proofs.Choice.{meet}
use Rattle.mix.proofs.blended.Reads as blended
use Rattle.mix.proofs.blend.Reads as blend
use Rattle.mix.proofs.fade.Reads as fade

pub blended-unique : (κs i a b e f : _) → blended.Post κs i a e → blended.Post κs i b f → a ≡ b
blended-unique κs i a b e f p q = meet p.0 q.0

pub blend-unique : (κs i a b e f : _) → blend.Post κs i a e → blend.Post κs i b f → a ≡ b
blend-unique κs i a b e f p q = meet p q

pub fade-unique : (κs i a b e f : _) → fade.Post κs i a e → fade.Post κs i b f → a ≡ b
fade-unique κs i a b e f p q = meet p q
