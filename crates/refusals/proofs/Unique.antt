-- No two outcomes meet the promise of a refusal. `Post` is the function's own `ensures`, as the check reads it in
-- `src/lib.rt`: of the arguments i, the answer a or b, and the arguments at exit, e or f. Assumes nothing.
use mathlib.Core.Path.{◌≡◌}
use Rattle.answers.proofs.Decode.{answer_of-meet}
use Rattle.refusals.proofs.fill_refusal.Reads as FillRefusal
use Rattle.refusals.proofs.paint_refusal.Reads as PaintRefusal
use Rattle.refusals.proofs.line_refusal.Reads as LineRefusal

pub fill-refusal-unique : (κs i a b e f : _) → FillRefusal.Post κs i a e → FillRefusal.Post κs i b f → a ≡ b
fill-refusal-unique κs i a b e f p q = answer_of-meet p q

pub paint-refusal-unique : (κs i a b e f : _) → PaintRefusal.Post κs i a e → PaintRefusal.Post κs i b f → a ≡ b
paint-refusal-unique κs i a b e f p q = answer_of-meet p q

pub line-refusal-unique : (κs i a b e f : _) → LineRefusal.Post κs i a e → LineRefusal.Post κs i b f → a ≡ b
line-refusal-unique κs i a b e f p q = answer_of-meet p q
