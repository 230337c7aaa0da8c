-- `river::at_least` meets its contract: each `return` is a case of `at_least`. Assumes nothing.
use Rattle.river.specs.Engine.Steps.{at_least}
use Rattle.river.proofs.at_least.Goals as goal

pub returns-then-x : goal.returns-then-x
unfolding at_least
returns-then-x c = rw c.if-x.true

pub returns : goal.returns
unfolding at_least
returns c = rw c.if-x.false
