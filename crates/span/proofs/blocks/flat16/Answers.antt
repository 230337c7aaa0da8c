-- `span::blocks::flat16` meets its contract: what is stored are the mixed words, with one alpha.
-- Assumes nothing.
use borrow.Author.Rules.{rules}
use Rattle.span.proofs.OverParts.{alphas-one, mix-block}
use Rattle.span.proofs.blocks.flat16.Goals as goal

pub returns : goal.returns
returns c = search (mix-block, alphas-one, rules)
