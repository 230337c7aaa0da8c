-- No two outcomes meet a function's promise. `Post` is the function's own `ensures`, as the check reads it
-- in `src/lib.rt`: of the arguments i, the answer a or b, and the arguments at exit, e or f. Assumes
-- nothing.
use Prim.Native.Nat.{◌/◌}
use mathlib.Core.Path.{◌≡◌, ◌∙◌, refl, sym, ap}
use mathlib.Core.Bool.{false≢true}
use lib.ListN.{length, take}
use Rattle.std.specs.Prelude.{Some, None, IsSome}
use Rattle.lists.proofs.Choice.{meet}
use Rattle.hexadecimal.proofs.read_bytes.Reads as ReadBytes
use Rattle.hexadecimal.proofs.print_bytes.Reads as PrintBytes

-- the answer and, of a good text, the bytes that it stands for; no more of the buffer is promised
pub read-bytes-unique : (κs i a b e f : _) → ReadBytes.Post κs i a e → ReadBytes.Post κs i b f
    → (a ≡ b)
    × (IsSome a → take (length i.0.now / 2) e.1.0.now ≡ take (length i.0.now / 2) f.1.0.now)
read-bytes-unique κs i None None e f p q = (refl, λ g. absurd (false≢true g))
read-bytes-unique κs i (Some m) (Some n) e f p q =
    let k : m ≡ length i.0.now / 2 = p.1 in
    let l : n ≡ length i.0.now / 2 = q.1 in
    (ap Some (meet k l), λ _. meet (rw k at p.2) (rw l at q.2))
read-bytes-unique κs i None (Some n) e f p q = absurd (false≢true (sym p ∙ q.0))
read-bytes-unique κs i (Some m) None e f p q = absurd (false≢true (sym q ∙ p.0))

-- every byte of the output
pub print-bytes-unique : (κs i a b e f : _) → PrintBytes.Post κs i a e → PrintBytes.Post κs i b f
    → e.1.0.now ≡ f.1.0.now
print-bytes-unique κs i a b e f p q = meet p q
