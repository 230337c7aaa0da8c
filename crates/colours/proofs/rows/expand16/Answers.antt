-- `colours::rows::expand16` meets its contract: a turn writes the pixels of four indexes more. Assumes nothing.
use native.Mathlib.Omega.{arith}
use Rattle.sixteen.proofs.PartLaws.{part-to}
use Rattle.colours.proofs.RowParts.{colour-four}
use Rattle.colours.proofs.rows.expand16.Goals as goal

pub loop-k-preserved : goal.loop-k-preserved
loop-k-preserved c = part-to (colour-four _ _ _ _ _ _ _ c.loop-k.invariant (omega arith) c.put_words.ensures
    c.index_of.ensures.0 c.index_of-in-loop-k.ensures.0 c.index_of-in-loop-k-2.ensures.0
    c.index_of-in-loop-k-3.ensures.0) (omega arith)
