-- No two outcomes meet the promise of a public function. `Post` is the function's own `ensures`, as the check reads
-- it in `src/lib.rt`: of the arguments i, the answer a or b, and the arguments at exit, e or f. An outcome is the
-- answer, with the error word, and every byte of the output, the last argument. Assumes nothing.
use mathlib.Core.Path.{◌≡◌, sym, ap}
use Prim.Native.Nat.{ℕ}
use Rattle.std.specs.Prelude.{Result, Ok, Err}
use Rattle.lists.proofs.Choice.{meet}
use Rattle.answers.specs.declared.Refusal.{Refusal}
use Rattle.answers.proofs.Decode.{answer_of-injective, answer_of-meet}
use Rattle.paint.specs.Painted.{Painted, painted_by}
use Rattle.paint.proofs.FrameLaws.{number-some}
use Rattle.paint.proofs.fill.Reads as fill
use Rattle.paint.proofs.band.Reads as band
use Rattle.paint.proofs.frame.Reads as frame
use Rattle.paint.proofs.line.Reads as line
use Rattle.paint.proofs.scene.Scene.lengths.Reads as lengths

-- two outcomes that come to one answer and one error word
painted-meet : (o p : Result ℕ Refusal) (errors : ℕ) {t : Painted} → painted_by o errors ≡ t → painted_by p errors ≡ t → o ≡ p
painted-meet (Ok e) (Ok f) errors a b = ap Ok (ap (λ (t : Painted). t.errors) (meet a b))
painted-meet (Ok e) (Err r) errors a b = absurd (number-some r (sym (ap (λ (t : Painted). t.answer) (meet a b))))
painted-meet (Err r) (Ok f) errors a b = absurd (number-some r (ap (λ (t : Painted). t.answer) (meet a b)))
painted-meet (Err r) (Err q) errors a b =
    let same : Err r ≡ Err q = answer_of-injective (Err r) (Err q) (ap (λ (t : Painted). t.answer) (meet a b)) in cc

pub fill-unique : (κs i a b e f : _) → fill.Post κs i a e → fill.Post κs i b f
    → (a ≡ b) × (e.1.0.now ≡ f.1.0.now)
fill-unique κs i a b e f p q = (answer_of-meet p.0 q.0, meet p.1 q.1)

pub band-unique : (κs i a b e f : _) → band.Post κs i a e → band.Post κs i b f
    → (a ≡ b) × (e.1.1.1.1.0.now ≡ f.1.1.1.1.0.now)
band-unique κs i a b e f p q = (painted-meet _ _ _ p.0 q.0, meet p.1 q.1)

pub frame-unique : (κs i a b e f : _) → frame.Post κs i a e → frame.Post κs i b f
    → (a ≡ b) × (e.1.1.0.now ≡ f.1.1.0.now)
frame-unique κs i a b e f p q = (painted-meet _ _ _ p.0 q.0, meet p.1 q.1)

pub line-unique : (κs i a b e f : _) → line.Post κs i a e → line.Post κs i b f
    → (a ≡ b) × (e.1.1.1.0.now ≡ f.1.1.1.0.now)
line-unique κs i a b e f p q = (painted-meet _ _ _ p.0 q.0, meet p.1 q.1)

-- how long the lent buffers are, each by itself
pub lengths-unique : (κs i a b e f : _) → lengths.Post κs i a e → lengths.Post κs i b f
    → (a.tables ≡ b.tables) × (a.pictures ≡ b.pictures) × (a.floats ≡ b.floats)
lengths-unique κs i a b e f p q = (meet p.0 q.0, meet p.1.0 q.1.0, meet p.1.1 q.1.1)
