-- The call's contract is the equation with its definitions, and so no two outcomes meet it. `Post` is its
-- own `ensures`, as the check reads it in `src/lib.rt`, of the lifetimes κs, the arguments i, the answer a and
-- the arguments at exit e. Assumes nothing.
use Prim.Native.Nat.{ℕ}
use mathlib.Core.List.{List}
use Rattle.lists.specs.Call.{Call, call_of, Tied, OneOutcome}
use Rattle.lists.specs.Over.{over}
use Rattle.lists.proofs.Call.{quadruple-is, tied-unique}
use Rattle.repair.specs.Image.{mend_answer, mend_image, mend_list, mend_count}
use Rattle.repair.proofs.spoonwing_mend.Reads as SpoonwingMend

-- the image, the list and the count as they are lent; the answer, and all three as they are left
abbrev pub mend_call : Call (List ℕ × List ℕ × ℕ) (ℕ × List ℕ × List ℕ × ℕ)
mend_call =
    call_of SpoonwingMend.Post (λ κs i. (i.0.now, i.1.0.now, i.1.1.0.now))
    (λ κs a e. (a, e.0.now, e.1.0.now, e.1.1.0.now))

pub mend-tie : Tied mend_call
    (λ x. (mend_answer x.0, mend_image x.0, over (mend_list x.0) x.1, mend_count x.0))
mend-tie = record { is = λ κs i a e. quadruple-is }

pub mend-unique : OneOutcome mend_call
mend-unique = tied-unique mend-tie
