-- `steps::load` meets its contract: a selection, and then its bytes put. Assumes nothing.
use Rattle.steps.proofs.StepLaws.{load_is}
use Rattle.steps.proofs.load.Goals as goal

pub returns : goal.returns
returns c = let a = c.args in load_is a.b.now a.at _ _ _ _ _ _ _ c.byte_at.ensures.0
    c.select-t.ensures
    c.count_at-n.ensures.0 c.puts.ensures
