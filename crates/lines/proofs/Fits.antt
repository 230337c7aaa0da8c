-- What is printed has room: one line's answer, and those of a block's lines in the output of a call on
-- it. Assumes nothing.
use Prim.Native.Nat.{ℕ, zero, suc, ◌≤◌}
use mathlib.Core.List.{List, []}
use native.Mathlib.Omega.{arith}
use lib.Dec.{eqb}
use lib.ListN.{length, length-append}
use Rattle.lists.proofs.Choice.{choose-keeps}
use Rattle.display.specs.declared.Display.{Display}
use Rattle.texts.specs.Lines.{ends_in, line_in}
use Rattle.line.proofs.Fits.{Fits, line-le}
use Rattle.lines.specs.declared.blocks.Going.{Going}
use Rattle.lines.specs.Sizes.{most_kept, out_len}
use Rattle.lines.specs.Blocks.{fed_run, last_run, Batch, open_of, rest_of, next_run, turn_of, goes_on, turns_of, feed_of}
use Rattle.lines.proofs.BlockLaws.{goes_on-inside}
use Rattle.lines.proofs.CallLaws.{turns_of-used}

-- ---- one line at most

fed-le : (d : Display) (t x l : List ℕ) → Fits (fed_run d t x l)
unfolding fed_run
fed-le d t x l = choose-keeps Fits (ends_in l) _ _ (λ e. line-le d t (line_in most_kept x l)) (λ e. omega arith)

pub last-le : (d : Display) (t x : List ℕ) → Fits (last_run d t x)
unfolding last_run
last-le d t x = choose-keeps Fits (eqb (length x) 0) _ _ (λ e. omega arith) (λ e. line-le d t x)

-- ---- a batch stays inside its block and its output

turns-count : (n : ℕ) (l : List ℕ) (b : Batch) → length b.printed ≤ out_len → length (turns_of n l b).printed ≤ out_len
unfolding turns_of turn_of next_run
turns-count zero l b h = h
turns-count (suc n) l b h =
    choose-keeps (λ (z : Batch). length z.printed ≤ out_len) (goes_on (length l) b.used (length b.printed)) _ _
    (λ g. turns-count n l (turn_of l b)
    (simp length-append (omega (
      arith,
      (goes_on-inside (length l) b.used (length b.printed) g).1,
      fed-le b.going.state b.tables (open_of b) (rest_of l b),
    ))))
    (λ g. h)

module _ (g : Going) (t u l : List ℕ) where
  pub feed-count : length (feed_of g t u l).printed ≤ out_len
  unfolding feed_of
  feed-count = turns-count (length l) l _ (omega arith)

  pub feed-used : (feed_of g t u l).used ≤ length l
  unfolding feed_of
  feed-used =
      let b : Batch = record { going = g; tables = t; text = u; used = 0; printed = [] } in
      (turns_of-used (length l) l b (omega arith)).1
