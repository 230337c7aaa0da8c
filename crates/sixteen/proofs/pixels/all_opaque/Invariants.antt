-- `sixteen::pixels::all_opaque` meets its contract: all pixels so far are no less than what they have in common.
-- Assumes nothing.
use Rattle.sixteen.specs.Engine.Lanes.{Lanes}
use Rattle.sixteen.proofs.LaneLaws.{AtLeast}
use Rattle.sixteen.proofs.pixels.all_opaque.Given as goal

abbrev pub invariant-loop-x : goal.invariant-loop-x
invariant-loop-x l = Lanes l.fn.p l.x-index (AtLeast l.all)
