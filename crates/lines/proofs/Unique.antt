-- Each call's contract is the equation with its definitions, and so no two outcomes meet it: a law
-- CALL-tie and a law CALL-unique of each. `Post` is the call's own `ensures`, as the check reads it in
-- `src/lib.rt`, of the lifetimes κs, the arguments i, the answer a and the arguments at exit e. An outcome
-- is the answer, with the state, and every byte of the tables, the text and the output. Assumes nothing.
use Prim.Native.Nat.{ℕ, ◌≤◌}
use mathlib.Core.Path.{◌≡◌}
use mathlib.Core.Logic.{◌↔◌}
use mathlib.Core.List.{List}
use native.Mathlib.Omega.{arith}
use lib.ListN.{length}
use Rattle.lists.specs.Call.{Call, call_of, Tied, OneOutcome}
use Rattle.lists.specs.Over.{over}
use Rattle.lists.proofs.Call.{itself, tied-unique}
use Rattle.display.specs.declared.Display.{Display}
use Rattle.line.specs.declared.Printed.{Printed}
use Rattle.line.specs.Sizes.{most_printed}
use Rattle.line.specs.Line.{Ran, line_of, printed_of}
use Rattle.line.proofs.Fits.{line-le}
use Rattle.lines.specs.declared.blocks.Fed.{Fed}
use Rattle.lines.specs.declared.blocks.Going.{Going}
use Rattle.lines.specs.Sizes.{out_len}
use Rattle.lines.specs.Blocks.{begun, line_begun, Batch, feed_of, fed_of, finish_of}
use Rattle.lines.proofs.CallLaws.{feed_of-used}
use Rattle.lines.proofs.Fits.{last-le, feed-count, feed-used}
use Rattle.lines.proofs.run_line.Reads as RunLine
use Rattle.lines.proofs.begin.Reads as begin
use Rattle.lines.proofs.feed.Reads as feed
use Rattle.lines.proofs.finish.Reads as finish

-- ---- what a run leaves: its answer, the tables, and the output with what it prints in front

abbrev pub left_by : Ran → List ℕ → Printed × List ℕ × List ℕ
left_by r out = (printed_of r, r.tables, over r.printed out)

-- the clauses of a contract are the equation with it: the bound n is one of the definition
ran-is : (n : ℕ) (r : Ran) (a : Printed) (t o out : List ℕ) → length r.printed ≤ n
    → ((a ≡ printed_of r) × ((t ≡ r.tables) × ((o ≡ over r.printed out) × (a.count ≤ n))))
    ↔ (◌≡◌ {A = Printed × List ℕ × List ℕ} (a, t, o) (left_by r out))
ran-is n r a t o out fits = (
  λ p j. (p.0 j, p.1.0 j, p.1.1.0 j),
  λ q. let m : a.count ≡ length r.printed = λ j. (q j).0.count in
      ((λ j. (q j).0), ((λ j. (q j).1), ((λ j. (q j).2), omega arith))),
)

-- ---- a line: the state, the tables, the text and the output; tables and output are left

abbrev pub run_line_call : Call (Display × List ℕ × List ℕ × List ℕ) (Printed × List ℕ × List ℕ)
run_line_call =
    call_of RunLine.Post (λ κs i. (i.0, i.1.0.now, i.1.1.0.now, i.1.1.1.0.now))
    (λ κs a e. (a, e.1.0.now, e.1.1.1.0.now))

pub run-line-tie : Tied run_line_call (λ x. left_by (line_of x.0 x.1 x.2) x.3)
run-line-tie =
    record {
      is = λ κs i a e.
          let r = line_of i.0 i.1.0.now i.1.1.0.now in
          ran-is most_printed r a e.1.0.now e.1.1.1.0.now i.1.1.1.0.now
          (line-le i.0 i.1.0.now i.1.1.0.now);
    }

pub run-line-unique : OneOutcome run_line_call
run-line-unique = tied-unique run-line-tie

-- ---- the beginning of a sheet

abbrev pub begin_call : Call (Unit {0}) Going
begin_call = call_of begin.Post (λ κs i. tt) (λ κs a e. a)

pub begin-tie : Tied begin_call (λ x. begun)
begin-tie = record { is = λ κs i a e. itself }

pub begin-unique : OneOutcome begin_call
begin-unique = tied-unique begin-tie

-- ---- its end: what goes on, the tables, the text and the output; tables and output are left

abbrev pub finish_call : Call (Going × List ℕ × List ℕ × List ℕ) (Printed × List ℕ × List ℕ)
finish_call =
    call_of finish.Post (λ κs i. (i.0, i.1.0.now, i.1.1.0.now, i.1.1.1.0.now))
    (λ κs a e. (a, e.1.0.now, e.1.1.1.0.now))

pub finish-tie : Tied finish_call (λ x. left_by (finish_of x.0 x.1 x.2) x.3)
finish-tie =
    record {
      is = λ κs i a e.
          let r = finish_of i.0 i.1.0.now i.1.1.0.now in
          let m = last-le i.0.state i.1.0.now (line_begun i.0 i.1.1.0.now) in
          ran-is out_len r a e.1.0.now e.1.1.1.0.now i.1.1.1.0.now (omega arith);
    }

pub finish-unique : OneOutcome finish_call
finish-unique = tied-unique finish-tie

-- ---- a block: what goes on, the tables, the text, the block and the output; tables, text and output are
-- left

abbrev pub feed_call : Call (Going × List ℕ × List ℕ × List ℕ × List ℕ) (Fed × List ℕ × List ℕ × List ℕ)
feed_call =
    call_of feed.Post
    (λ κs i. (i.0, i.1.0.now, i.1.1.0.now, i.1.1.1.0.now, i.1.1.1.1.0.now))
    (λ κs a e. (a, e.1.0.now, e.1.1.0.now, e.1.1.1.1.0.now))

-- what a batch of lines leaves
abbrev pub left_by_batch : Batch → List ℕ → Fed × List ℕ × List ℕ × List ℕ
left_by_batch b out = (fed_of b, b.tables, b.text, over b.printed out)

pub feed-tie : Tied feed_call (λ x. left_by_batch (feed_of x.0 x.1 x.2 x.3) x.4)
feed-tie =
    record {
      is = λ κs i a e. (
        λ p j. (p.0 j, p.1.0 j, p.1.1.0 j, p.1.1.1.0 j),
        λ q. let b = feed_of i.0 i.1.0.now i.1.1.0.now i.1.1.1.0.now in
            let used : a.used ≡ b.used = λ j. (q j).0.used in
            let count : a.count ≡ length b.printed = λ j. (q j).0.count in
            let few = feed-used i.0 i.1.0.now i.1.1.0.now i.1.1.1.0.now in
            let short = feed-count i.0 i.1.0.now i.1.1.0.now i.1.1.1.0.now in
            let some = feed_of-used i.0 i.1.0.now i.1.1.0.now i.1.1.1.0.now in (
              (λ j. (q j).0),
              (
                (λ j. (q j).1),
                (
                  (λ j. (q j).2),
                  (
                    (λ j. (q j).3),
                    ((λ h. omega (arith, (some h).0)), omega arith, omega arith),
                  ),
                ),
              ),
            ),
      );
    }

pub feed-unique : OneOutcome feed_call
feed-unique = tied-unique feed-tie
