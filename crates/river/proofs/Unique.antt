-- No two outcomes meet a function's promise. `Post` is the function's own `ensures`, as the check reads it
-- in `src/lib.rt`: of the arguments i, the answer a or b, and the arguments at exit, e or f. An outcome is
-- the answer, or every byte of the row that the function writes. Assumes nothing.
use mathlib.Core.Path.{◌≡◌}
use Rattle.lists.proofs.Choice.{meet}
use Rattle.river.proofs.byte_of.Reads as ByteOf
use Rattle.river.proofs.bytes_of.Reads as BytesOf
use Rattle.river.proofs.to_bytes.Reads as ToBytes

pub byte-of-unique : (κs i a b e f : _) → ByteOf.Post κs i a e → ByteOf.Post κs i b f → a ≡ b
byte-of-unique κs i a b e f p q = meet p q

pub bytes-of-unique : (κs i a b e f : _) → BytesOf.Post κs i a e → BytesOf.Post κs i b f → a ≡ b
bytes-of-unique κs i a b e f p q = meet p q

pub to-bytes-unique : (κs i a b e f : _) → ToBytes.Post κs i a e → ToBytes.Post κs i b f
    → e.1.0.now ≡ f.1.0.now
to-bytes-unique κs i a b e f p q = meet p q
