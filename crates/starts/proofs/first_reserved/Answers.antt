-- `starts::first_reserved` meets its contract: it leaves at the first refusal. Assumes nothing.
use Rattle.starts.proofs.Exits.{stops}
use Rattle.starts.proofs.first_reserved.Goals as goal

pub returns-in_err-reserved : goal.returns-in_err-reserved
returns-in_err-reserved c =
    stops _ _ _ _ _ c.loop-i.invariant c.loop-i-test.true c.in_err-reserved.ensures c.from_residual.ensures.1
