-- A sheet keeps what its state holds for painting: where it begins, after each call of `feed` and `finish`, and after a
-- block in as many calls as it takes. Assumes nothing.
use Prim.Native.Nat.{ℕ, zero, suc}
use mathlib.Core.Bool.{false}
use mathlib.Core.List.{List}
use lib.Dec.{ltb, eqb}
use lib.ListN.{length}
use Rattle.lists.proofs.Choice.{choose-keeps}
use Rattle.profiles.specs.Profile.{one_bit}
use Rattle.display.specs.Reached.{Arranged}
use Rattle.display.proofs.Arranged.{fresh-arranged}
use Rattle.texts.specs.Lines.{ends_in, line_in}
use Rattle.line.specs.Line.{Ran}
use Rattle.line.proofs.Arranged.{line_of-arranged}
use Rattle.lines.specs.declared.blocks.Going.{Going}
use Rattle.lines.specs.Sizes.{most_kept}
use Rattle.lines.specs.Blocks.{fed_run, last_run, begun, line_begun, Batch, open_of, rest_of, next_run, turn_of, goes_on}
use Rattle.lines.specs.Blocks.{turns_of, feed_of, finish_of}
use Rattle.lines.specs.Calls.{again_of, calls_of, block_of}

abbrev ArrangedRan : Ran → Type 0
ArrangedRan r = Arranged r.state

abbrev ArrangedBatch : Batch → Type 0
ArrangedBatch b = Arranged b.going.state

pub begun-arranged : Arranged begun.state
begun-arranged = fresh-arranged (one_bit false)

-- ---- the lines of one call

pub turn_of-arranged : (l : List ℕ) (b : Batch) → ArrangedBatch b → ArrangedBatch (turn_of l b)
unfolding turn_of next_run fed_run
turn_of-arranged l b a =
    choose-keeps ArrangedRan (ends_in (rest_of l b)) _ _
    (λ _. line_of-arranged b.going.state b.tables a (line_in most_kept (open_of b) (rest_of l b))) (λ _. a)

turns_of-arranged : (n : ℕ) (l : List ℕ) (b : Batch) → ArrangedBatch b → ArrangedBatch (turns_of n l b)
unfolding turns_of
turns_of-arranged zero l b a = a
turns_of-arranged (suc n) l b a =
    choose-keeps ArrangedBatch (goes_on (length l) b.used (length b.printed)) _ _
    (λ _. turns_of-arranged n l (turn_of l b) (turn_of-arranged l b a)) (λ _. a)

pub feed_of-arranged : (g : Going) (t u l : List ℕ) → Arranged g.state → Arranged (feed_of g t u l).going.state
unfolding feed_of
feed_of-arranged g t u l a = turns_of-arranged (length l) l _ a

pub finish_of-arranged : (g : Going) (t u : List ℕ) → Arranged g.state → Arranged (finish_of g t u).state
unfolding last_run
finish_of-arranged g t u a =
    choose-keeps ArrangedRan (eqb (length (line_begun g u)) 0) _ _ (λ _. a)
    (λ _. line_of-arranged g.state t a (line_begun g u))

-- ---- the calls of a block

calls_of-arranged : (n : ℕ) (l : List ℕ) (b : Batch) → ArrangedBatch b → ArrangedBatch (calls_of n l b)
unfolding calls_of again_of
calls_of-arranged zero l b a = a
calls_of-arranged (suc n) l b a =
    choose-keeps ArrangedBatch (ltb b.used (length l)) _ _
    (λ _. calls_of-arranged n l (again_of l b) (feed_of-arranged b.going b.tables b.text (rest_of l b) a)) (λ _. a)

pub block_of-arranged : (g : Going) (t u l : List ℕ) → Arranged g.state → Arranged (block_of g t u l).going.state
unfolding block_of
block_of-arranged g t u l a = calls_of-arranged (length l) l _ a
