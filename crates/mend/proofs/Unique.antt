-- The contract of a line is the equation with its definition, and so no two outcomes meet it. `Post` is the
-- function's own `ensures`, as the check reads it in `src/line.rt`, of the lifetimes κs, the arguments i, the
-- answer a and the arguments at exit e. Assumes nothing.
use Prim.Native.Nat.{ℕ}
use mathlib.Core.Path.{◌≡◌}
use mathlib.Core.List.{List}
use native.Mathlib.Omega.{arith}
use lib.ListN.{length}
use Rattle.lists.specs.Call.{Call, call_of, Tied, OneOutcome}
use Rattle.lists.specs.Over.{over}
use Rattle.lists.proofs.Call.{tied-unique}
use Rattle.mend.specs.Line.{mend_line}
use Rattle.mend.proofs.Fits.{mend_line-le}
use Rattle.mend.proofs.line.run_line.Reads as RunLine

-- the text and the output; how many bytes are printed, and the output that is left
abbrev pub mend_line_call : Call (List ℕ × List ℕ) (ℕ × List ℕ)
mend_line_call = call_of RunLine.Post (λ κs i. (i.0.now, i.1.0.now)) (λ κs a e. (a, e.1.0.now))

pub mend-line-tie : Tied mend_line_call (λ x. (length (mend_line x.0), over (mend_line x.0) x.1))
mend-line-tie =
    record {
      is = λ κs i a e. (
        λ p j. (p.0 j, p.1.0 j),
        λ q. let m : a ≡ length (mend_line i.0.now) = λ j. (q j).0 in
            ((λ j. (q j).0), ((λ j. (q j).1), omega (arith, mend_line-le i.0.now))),
      );
    }

pub mend-line-unique : OneOutcome mend_line_call
mend-line-unique = tied-unique mend-line-tie
