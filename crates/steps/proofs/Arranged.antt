-- The steps of a line keep what the state holds for painting. Assumes nothing.
use mathlib.Core.List.{List, [], ◌∷◌}
use lib.Dec.{eqb}
use Prim.Native.Nat.{ℕ}
use Rattle.lists.proofs.Choice.{choose-keeps}
use Rattle.answers.specs.Answers.{done}
use Rattle.display.specs.declared.Display.{Display}
use Rattle.display.specs.Reached.{Arranged}
use Rattle.display.proofs.Arranged.{write-arranged, select-arranged, put-arranged}
use Rattle.steps.specs.Steps.{Act, select, put, write, Midway, act_of, step_of, run_of}

abbrev ArrangedMidway : Midway → Type 0
ArrangedMidway m = Arranged m.told.state

act-arranged : (d : Display) (t : List ℕ) (s : Act) → Arranged d → ArrangedMidway (act_of d t s)
act-arranged d t (select n) a = select-arranged d a n
act-arranged d t (put x) a = put-arranged d a t
act-arranged d t (write r v) a = write-arranged d a r v

step-arranged : (m : Midway) (s : Act) → ArrangedMidway m → ArrangedMidway (step_of m s)
unfolding step_of
step-arranged m s a =
    choose-keeps ArrangedMidway (eqb m.told.answer done) _ _ (λ _. act-arranged m.told.state m.tables s a) (λ _. a)

pub run-arranged : (m : Midway) (l : List Act) → ArrangedMidway m → ArrangedMidway (run_of m l)
unfolding run_of
run-arranged m [] a = a
run-arranged m (s ∷ l) a = run-arranged (step_of m s) l (step-arranged m s a)
