-- `starts::clash_below` meets its contract: it leaves at the first refusal. Assumes nothing.
use Rattle.words.specs.Check.{clash_below}
use Rattle.starts.proofs.Exits.{stops}
use Rattle.starts.proofs.clash_below.Goals as goal

pub returns-in_err-clash : goal.returns-in_err-clash
unfolding clash_below
returns-in_err-clash c =
    stops _ _ _ _ _ c.loop-m.invariant c.loop-m-test.true c.in_err-clash.ensures c.from_residual.ensures.1
