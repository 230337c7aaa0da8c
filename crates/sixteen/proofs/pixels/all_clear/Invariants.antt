-- `sixteen::pixels::all_clear` meets its contract: all pixels so far are no more than what they are joined to. Assumes
-- nothing.
use Rattle.sixteen.specs.Engine.Lanes.{Lanes}
use Rattle.sixteen.proofs.LaneLaws.{AtMost}
use Rattle.sixteen.proofs.pixels.all_clear.Given as goal

abbrev pub invariant-loop-x : goal.invariant-loop-x
invariant-loop-x l = Lanes l.fn.p l.x-index (AtMost l.any)
