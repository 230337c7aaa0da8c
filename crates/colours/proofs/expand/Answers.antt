-- `colours::expand` meets its contract: the blocks and the rest are the whole row. Assumes nothing.
use borrow.Author.Rules.{rules}
use Rattle.sixteen.proofs.PartLaws.{front-tab}
use Rattle.colours.proofs.expand.Goals as goal

pub returns : goal.returns
returns c = search (front-tab, rules)
