-- `span::runs::own_rest` meets its contract: a turn blends one pixel more. Assumes nothing.
use borrow.Author.Rules.{rules}
use Rattle.span.proofs.OverParts.{own-next}
use Rattle.span.proofs.runs.own_rest.Goals as goal

pub loop-k-preserved : goal.loop-k-preserved
loop-k-preserved c = search (own-next, rules)
