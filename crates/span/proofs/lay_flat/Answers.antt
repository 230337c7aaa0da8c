-- `span::lay_flat` meets its contract: a filled row and the run over it, or the blocks laid and the
-- rest filled and blended. Assumes nothing.
use borrow.Author.Rules.{rules}
use Rattle.span.proofs.GroundLaws.{lay-each}
use Rattle.span.proofs.lay_flat.Goals as goal

pub returns : goal.returns
returns c = search (lay-each, rules)
