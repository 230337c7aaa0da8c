-- `starts::first_clash` meets its contract: it leaves at the first refusal. Assumes nothing.
use Rattle.starts.proofs.Exits.{stops}
use Rattle.starts.proofs.first_clash.Goals as goal

pub returns-in_err-clash_below : goal.returns-in_err-clash_below
returns-in_err-clash_below c =
    stops _ _ _ _ _ c.loop-n.invariant c.loop-n-test.true c.in_err-clash_below.ensures c.from_residual.ensures.1
