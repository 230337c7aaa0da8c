-- `repair::depths::held` meets its contract: it leaves at the first layer that holds the depth. Assumes nothing.
use native.Mathlib.Omega.{arith}
use Rattle.lists.proofs.First.{first_stops}
use Rattle.repair.specs.Steps.{holds_at, held_at}
use Rattle.repair.proofs.depths.held.Goals as goal

pub returns-then-is_here : goal.returns-then-is_here
unfolding held_at holds_at
returns-then-is_here c =
    first_stops _ _ _ _ c.loop-n-test.true c.loop-n.invariant
    (rw (← c.layer_of.ensures, ← c.is_here.ensures, c.if-is_here.true)) (λ z. omega arith)
