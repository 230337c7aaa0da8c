-- `plan::end_at` meets its contract: the part has the length of a list.
-- Assumes nothing.
use Rattle.plan.proofs.PartLaws.{part-is}
use Rattle.plan.proofs.end_at.Goals as goal

pub returns : goal.returns
returns c = rw (part-is c.args.tables.now c.args.at 768)
    at c.list_end.ensures
