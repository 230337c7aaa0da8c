-- The state keeps what it holds for painting.
use Rattle.display.specs.Reached.{Arranged}
use Rattle.sheet.proofs.run.Given as goal

abbrev pub invariant-loop : goal.invariant-loop
invariant-loop g l = Arranged l.going.state
