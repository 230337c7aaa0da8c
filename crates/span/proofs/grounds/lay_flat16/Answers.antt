-- `span::grounds::lay_flat16` meets its contract: what is stored are the words mixed over those of the
-- pixel, with one alpha. Assumes nothing.
use borrow.Author.Rules.{rules}
use Rattle.span.proofs.OverParts.{alphas-one}
use Rattle.span.proofs.GroundLaws.{lay-mixed}
use Rattle.span.proofs.grounds.lay_flat16.Goals as goal

pub returns : goal.returns
returns c = search (lay-mixed, alphas-one, rules)
