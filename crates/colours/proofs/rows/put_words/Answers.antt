-- `colours::rows::put_words` meets its contract: the four words are parts one after the other. Assumes
-- nothing.
use borrow.Author.Rules.{rules}
use Rattle.colours.proofs.RowParts.{words-part}
use Rattle.colours.proofs.rows.put_words.Goals as goal

pub returns : goal.returns
returns c = search (words-part, rules)
