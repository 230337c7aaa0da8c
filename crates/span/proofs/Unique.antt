-- No two outcomes meet a function's promise. `Post` is the function's own `ensures`, as the check reads it
-- in `src/lib.rt`: of the arguments i, the answer a or b, and the arguments at exit, e or f. An outcome is
-- every byte of the run that the function writes, or of each colour of the palette that it answers. Assumes nothing.
use mathlib.Core.Path.{◌≡◌}
use Prim.Native.Nat.{ℕ, ◌<◌}
use lib.ListN.{get_or}
use Rattle.lists.proofs.Choice.{meet}
use Rattle.colours.specs.Rows.{colour_count, word_byte}
use Rattle.span.proofs.blend.Reads as blend
use Rattle.span.proofs.blend_flat.Reads as BlendFlat
use Rattle.span.proofs.lay.Reads as lay
use Rattle.span.proofs.lay_flat.Reads as LayFlat
use Rattle.span.proofs.lay_either.Reads as LayEither
use Rattle.span.proofs.tint.Reads as tint
use Rattle.span.proofs.grounded.Reads as grounded

pub blend-unique : (κs i a b e f : _) → blend.Post κs i a e → blend.Post κs i b f → e.0.now ≡ f.0.now
blend-unique κs i a b e f p q = meet p q

pub blend-flat-unique : (κs i a b e f : _) → BlendFlat.Post κs i a e → BlendFlat.Post κs i b f
    → e.0.now ≡ f.0.now
blend-flat-unique κs i a b e f p q = meet p q

pub lay-unique : (κs i a b e f : _) → lay.Post κs i a e → lay.Post κs i b f → e.0.now ≡ f.0.now
lay-unique κs i a b e f p q = meet p q

pub lay-flat-unique : (κs i a b e f : _) → LayFlat.Post κs i a e → LayFlat.Post κs i b f → e.0.now ≡ f.0.now
lay-flat-unique κs i a b e f p q = meet p q

pub lay-either-unique : (κs i a b e f : _) → LayEither.Post κs i a e → LayEither.Post κs i b f
    → e.0.now ≡ f.0.now
lay-either-unique κs i a b e f p q = meet p q

pub tint-unique : (κs i a b e f : _) → tint.Post κs i a e → tint.Post κs i b f → e.0.now ≡ f.0.now
tint-unique κs i a b e f p q = meet p q

pub grounded-unique : (κs i a b e f : _) → grounded.Post κs i a e → grounded.Post κs i b f → (x j : ℕ) → x < colour_count
    → word_byte (get_or a x 0) j ≡ word_byte (get_or b x 0) j
grounded-unique κs i a b e f p q x j h = meet (p.bytes x j h) (q.bytes x j h)
