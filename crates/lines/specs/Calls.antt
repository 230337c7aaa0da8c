-- How calls follow one another when a sheet comes in parts: the vocabulary of the laws in `proofs/`.
-- Assumes nothing.
use Rattle.std.specs.Prelude.{ℕ, zero, suc, ◌+◌, List, [], ◌++◌, length, drop, ltb}
use Rattle.lists.specs.Choice.{choose}
use Rattle.line.specs.Line.{Ran}
use Rattle.lines.specs.declared.blocks.Going.{Going}
use Rattle.lines.specs.Sheet.{after}
use Rattle.lines.specs.Blocks.{Batch, rest_of, feed_of, finish_of}

-- calls of `feed`, each on a block l of bytes that have come and are not yet used, whatever comes after
-- them, and then `finish`: from what goes on, the tables and the text's buffer, the calls make the run
-- r of the bytes that are left
pub data Course : Going → List ℕ → List ℕ → List ℕ → Ran → Type 0 where
  at-end : (g : Going) (t u : List ℕ) → Course g t u [] (finish_of g t u)
  by-feed : (g : Going) (t u l more : List ℕ) (r : Ran)
      → Course (feed_of g t u l).going (feed_of g t u l).tables (feed_of g t u l).text
      (drop (feed_of g t u l).used l ++ more) r
      → Course g t u (l ++ more) (after (feed_of g t u l).printed r)

-- ---- a block in as many calls as it takes

-- one call more of `feed`, on the bytes of the block l that are left
unfoldable pub again_of : List ℕ → Batch → Batch
again_of l b =
    record {
      going = (feed_of b.going b.tables b.text (rest_of l b)).going;
      tables = (feed_of b.going b.tables b.text (rest_of l b)).tables;
      text = (feed_of b.going b.tables b.text (rest_of l b)).text;
      used = b.used + (feed_of b.going b.tables b.text (rest_of l b)).used;
      printed = b.printed ++ (feed_of b.going b.tables b.text (rest_of l b)).printed;
    }

-- n calls more at most, until it is used up
unfoldable pub calls_of : ℕ → List ℕ → Batch → Batch
calls_of zero l b = b
calls_of (suc n) l b = choose (ltb b.used (length l)) (calls_of n l (again_of l b)) b

-- a call uses up a byte at least, so there are no more calls than bytes
unfoldable pub block_of : Going → List ℕ → List ℕ → List ℕ → Batch
block_of g t u l = calls_of (length l) l (record { going = g; tables = t; text = u; used = 0; printed = [] })
