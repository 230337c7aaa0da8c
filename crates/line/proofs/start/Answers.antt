-- `line::start` meets its contract: the first of two refusals stays. Assumes nothing.
use borrow.Author.Rules.{rules}
use Rattle.line.proofs.LineLaws.{started-first, started-fresh}
use Rattle.line.proofs.start.Goals as goal

pub returns-then-t-ne-DONE : goal.returns-then-t-ne-DONE
returns-then-t-ne-DONE c = search (started-first, rules)

pub returns : goal.returns
returns c = search (started-fresh, rules)
