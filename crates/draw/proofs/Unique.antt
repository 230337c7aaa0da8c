-- No two outcomes meet a function's promise. `Post` is the function's own `ensures`, as the check reads it
-- in `src/`: of the arguments i, the answer a or b, and the arguments at exit, e or f. An outcome is the
-- answer, or every place of the line that is written. Assumes nothing.
use mathlib.Core.Path.{◌≡◌}
use Rattle.lists.proofs.Choice.{meet}
use Rattle.draw.proofs.instruction.word_of.Reads as WordOf
use Rattle.draw.proofs.instruction.opcode.Reads as opcode
use Rattle.draw.proofs.instruction.scale.Reads as scale
use Rattle.draw.proofs.runs.fill_run.Reads as FillRun
use Rattle.draw.proofs.list_end.Reads as ListEnd

pub word-of-unique : (κs i a b e f : _) → WordOf.Post κs i a e → WordOf.Post κs i b f → a ≡ b
word-of-unique κs i a b e f p q = meet p.0 q.0

pub opcode-unique : (κs i a b e f : _) → opcode.Post κs i a e → opcode.Post κs i b f → a ≡ b
opcode-unique κs i a b e f p q = meet p q

pub scale-unique : (κs i a b e f : _) → scale.Post κs i a e → scale.Post κs i b f → a ≡ b
scale-unique κs i a b e f p q = meet p.0 q.0

-- the line is the first argument
pub fill-run-unique : (κs i a b e f : _) → FillRun.Post κs i a e → FillRun.Post κs i b f → e.0.now ≡ f.0.now
fill-run-unique κs i a b e f p q = meet p q

pub list-end-unique : (κs i a b e f : _) → ListEnd.Post κs i a e → ListEnd.Post κs i b f → a ≡ b
list-end-unique κs i a b e f p q = meet p q
