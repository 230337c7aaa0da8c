-- The entry's contract is the equation with its definitions, and so no two outcomes meet it. `Post` is
-- its own `ensures`, as the check reads it in `src/lib.rt`, of the lifetimes κs, the arguments i, the
-- answer a and the arguments at exit e, of which the output is the last. Assumes nothing.
use Prim.Native.Nat.{ℕ}
use mathlib.Core.List.{List}
use Rattle.lists.specs.Call.{Call, call_of, Tied, OneOutcome}
use Rattle.lists.proofs.Call.{pair_is, tied-unique}
use Rattle.host.specs.Host.{host_answer, host_output}
use Rattle.host.proofs.spoonwing_frame.Reads as SpoonwingFrame

-- the image, the frame number, tables, pictures, output; the output is left
abbrev pub host_call : Call (List ℕ × ℕ × List ℕ × List ℕ × List ℕ) (ℕ × List ℕ)
host_call =
    call_of SpoonwingFrame.Post
    (λ κs i. (i.0.now, i.1.0, i.1.1.0.now, i.1.1.1.0.now, i.1.1.1.1.0.now))
    (λ κs a e. (a, e.1.1.1.1.0.now))

pub host-tie : Tied host_call
    (λ x. (host_answer x.0 x.1 x.2 x.3 x.4, host_output x.0 x.1 x.2 x.3 x.4))
host-tie = record { is = λ κs i a e. pair_is }

pub host-unique : OneOutcome host_call
host-unique = tied-unique host-tie
