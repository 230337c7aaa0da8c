-- `span::blend` meets its contract: the blocks and the rest are the whole run. Assumes nothing.
use borrow.Author.Rules.{rules}
use Rattle.sixteen.proofs.PartLaws.{front-each}
use Rattle.span.proofs.blend.Goals as goal

pub returns : goal.returns
returns c = search (front-each, rules)
