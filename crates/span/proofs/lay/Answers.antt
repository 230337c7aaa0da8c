-- `span::lay` meets its contract: the blocks are laid, and the rest is filled and blended. Assumes
-- nothing.
use borrow.Author.Rules.{rules}
use Rattle.span.proofs.GroundLaws.{lay-each}
use Rattle.span.proofs.lay.Goals as goal

pub returns : goal.returns
returns c = search (lay-each, rules)
