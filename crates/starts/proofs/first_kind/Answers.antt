-- `starts::first_kind` meets its contract: it leaves at the first refusal. Assumes nothing.
use Rattle.starts.proofs.Exits.{stops}
use Rattle.starts.proofs.first_kind.Goals as goal

pub returns-in_err-kind : goal.returns-in_err-kind
returns-in_err-kind c =
    stops _ _ _ _ _ c.loop-n.invariant c.loop-n-test.true c.in_err-kind.ensures c.from_residual.ensures.1
