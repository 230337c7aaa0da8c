-- `span::tints::past_same` meets its contract: the indexes from `from` up to j are one; the measure is what is left.
-- Assumes nothing.
use Rattle.span.proofs.TintLaws.{same_more}
use Rattle.span.proofs.tints.past_same.Goals as goal

pub loop-j-preserved : goal.loop-j-preserved
loop-j-preserved c = same_more c.loop-j.invariant (c.is_same_at.ensures c.loop-j-test.true)
