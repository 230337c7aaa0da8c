-- `colours::rows::fill_blocks` meets its contract: a turn fills one block more. Assumes nothing.
use borrow.Author.Rules.{rules}
use Rattle.colours.proofs.RowParts.{fill-turn}
use Rattle.colours.proofs.rows.fill_blocks.Goals as goal

pub loop-k-preserved : goal.loop-k-preserved
loop-k-preserved c = search (fill-turn, rules)
