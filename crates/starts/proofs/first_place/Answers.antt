-- `starts::first_place` meets its contract: it leaves at the first refusal. Assumes nothing.
use Rattle.starts.proofs.Exits.{stops}
use Rattle.starts.proofs.first_place.Goals as goal

pub returns-in_err-place : goal.returns-in_err-place
returns-in_err-place c =
    stops _ _ _ _ _ c.loop-n.invariant c.loop-n-test.true c.in_err-place.ensures c.from_residual.ensures.1
