-- `river::at_most` meets its contract: each `return` is a case of `at_most`. Assumes nothing.
use Rattle.river.specs.Engine.Steps.{at_most}
use Rattle.river.proofs.at_most.Goals as goal

pub returns-then-x : goal.returns-then-x
unfolding at_most
returns-then-x c = rw c.if-x.true

pub returns : goal.returns
unfolding at_most
returns c = rw c.if-x.false
