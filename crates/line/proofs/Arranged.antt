-- A line keeps what the state holds for painting, whatever is refused on it. Assumes nothing.
use mathlib.Core.Path.{◌≡◌, ap}
use mathlib.Core.List.{List, []}
use Prim.Native.Nat.{ℕ}
use lib.Dec.{eqb, leb}
use lib.ListN.{length}
use Rattle.lists.specs.Choice.{both}
use Rattle.lists.proofs.Choice.{choose-keeps}
use Rattle.answers.specs.Answers.{done}
use Rattle.display.specs.declared.Display.{Display}
use Rattle.display.specs.declared.Told.{Told}
use Rattle.display.specs.State.{told}
use Rattle.display.specs.Reached.{Arranged}
use Rattle.display.proofs.Arranged.{start-arranged, frame-arranged}
use Rattle.hexadecimal.specs.Hex.{is_hex, bytes_in}
use Rattle.steps.specs.Form.{is_formed}
use Rattle.steps.specs.Steps.{Midway, midway, run_of, steps_of}
use Rattle.steps.proofs.Arranged.{run-arranged}
use Rattle.line.specs.Sizes.{most_digits}
use Rattle.line.specs.Line.{started_of, framed_of, lent_of, Outcome, closed_of, work_of, done_of, outcome_of, line_of}

abbrev ArrangedTold : Told → Type 0
ArrangedTold t = Arranged t.state

abbrev ArrangedOutcome : Outcome → Type 0
ArrangedOutcome o = Arranged o.state

pub started-arranged : (t : Told) → Arranged t.state → Arranged (started_of t).state
unfolding started_of
started-arranged t a = start-arranged t.state a

framed-arranged : (r : Told) (t p : List ℕ) → Arranged r.state → Arranged (framed_of r t p).state
unfolding framed_of
framed-arranged r t p a =
    choose-keeps ArrangedTold (eqb r.answer done) _ _ (λ _. frame-arranged r.state a t p [] (lent_of r.state)) (λ _. a)

-- as the code has the steps
pub steps-arranged : (d : Display) (t v b : List ℕ) (r : Told)
    → midway r v ≡ run_of (midway (told d done) t) (steps_of b) → Arranged d → Arranged r.state
steps-arranged d t v b r e a =
    let s : r.state ≡ (run_of (midway (told d done) t) (steps_of b)).told.state = ap (λ (m : Midway). m.told.state) e in
    rw s (run-arranged (midway (told d done) t) (steps_of b) a)

module _ (d : Display) (t : List ℕ) (a : Arranged d) where
  done-arranged : (b : List ℕ) → Arranged (done_of d t b).state
  unfolding done_of work_of closed_of
  done-arranged b =
      let m = run_of (midway (told d done) t) (steps_of b) in
      choose-keeps ArrangedOutcome (is_formed b) _ _
      (λ _. framed-arranged (started_of m.told) m.tables _
      (started-arranged m.told (run-arranged (midway (told d done) t) (steps_of b) a)))
      (λ _. a)

  pub line_of-arranged : (text : List ℕ) → Arranged (line_of d t text).state
  unfolding line_of outcome_of
  line_of-arranged text =
      choose-keeps ArrangedOutcome (both (leb (length text) most_digits) (is_hex text)) _ _
      (λ _. done-arranged (bytes_in text)) (λ _. a)
