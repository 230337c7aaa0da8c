-- No two outcomes meet a function's promise. `Post` is the function's own `ensures`, as the check reads it
-- in `src/`: of the arguments i, the answer a or b, and the arguments at exit, e or f. An outcome is the answer,
-- every place of the line that is drawn, or each span that is asked for. Assumes nothing.
use mathlib.Core.Path.{◌≡◌}
use Prim.Native.Nat.{ℕ, ◌<◌}
use lib.ListN.{get_or}
use Rattle.lists.proofs.Choice.{meet}
use Rattle.pen.proofs.draw_line.Reads as DrawLine
use Rattle.pen.proofs.spans.is_on.Reads as IsOn
use Rattle.pen.proofs.spans.list_spans.Reads as ListSpans

pub is-on-unique : (κs i a b e f : _) → IsOn.Post κs i a e → IsOn.Post κs i b f → a ≡ b
is-on-unique κs i a b e f p q = meet p q

-- the spans are the first argument, and the third says how many; further words are left open, and nothing reads them
pub list-spans-unique : (κs i a b e f : _) → ListSpans.Post κs i a e → ListSpans.Post κs i b f → (k : ℕ) → k < i.1.1.0
    → get_or e.0.now k 0 ≡ get_or f.0.now k 0
list-spans-unique κs i a b e f p q k h = meet (p.span k h).is (q.span k h).is

-- the line is the first argument
pub draw-line-unique : (κs i a b e f : _) → DrawLine.Post κs i a e → DrawLine.Post κs i b f → e.0.now ≡ f.0.now
draw-line-unique κs i a b e f p q = meet p q
