-- `colours::rows::repeat16` meets its contract: what is stored is the pixel, sixteen times. Assumes
-- nothing.
use borrow.Author.Rules.{rules}
use Rattle.colours.proofs.RowParts.{word-block}
use Rattle.colours.proofs.rows.repeat16.Goals as goal

pub returns : goal.returns
returns c = search (word-block, rules)
