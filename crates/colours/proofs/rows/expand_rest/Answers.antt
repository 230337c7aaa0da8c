-- `colours::rows::expand_rest` meets its contract: a turn writes the pixel of one index more. Assumes nothing.
use borrow.Author.Rules.{rules}
use Rattle.colours.proofs.RowParts.{colour-turn}
use Rattle.colours.proofs.rows.expand_rest.Goals as goal

pub loop-j-preserved : goal.loop-j-preserved
loop-j-preserved c = search (colour-turn, rules)
