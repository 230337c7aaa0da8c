-- `four` meets its contract: what it works out is computed for each byte and value. Assumes nothing.
use borrow.Author.Rules.{rules}
use Rattle.text.proofs.ValueLaws.{four_is}
use Rattle.text.proofs.four.Goals as goal

pub returns : goal.returns
returns c = search (four_is, rules)
