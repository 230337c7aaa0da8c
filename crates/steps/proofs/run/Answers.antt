-- `steps::run` meets its contract: the loads, and then the writes. Assumes nothing.
use Rattle.steps.proofs.StepLaws.{steps-is}
use Rattle.steps.proofs.run.Goals as goal

pub returns : goal.returns
returns c = steps-is c.args.b.now c.args.place _ _ _ _ _ _ c.requires.0 c.byte_at-n.ensures.0
    c.loads-t.ensures c.writes.ensures
