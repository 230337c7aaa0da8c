-- `repair::depths::held` meets its contract: the invariant is that no layer below n holds the depth.
-- Assumes nothing.
use mathlib.Core.Path.{◌≡◌}
use Rattle.lists.specs.Runs.{first_of}
use Rattle.repair.specs.Steps.{holds_at}
use Rattle.repair.proofs.depths.held.Given as goal

abbrev pub invariant-loop-n : goal.invariant-loop-n
invariant-loop-n l = first_of l.n (holds_at l.w l.d) ≡ 0
