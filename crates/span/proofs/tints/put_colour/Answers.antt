-- `span::tints::put_colour` meets its contract: a turn puts one block more. Assumes nothing.
use Rattle.span.proofs.TintLaws.{put-more}
use Rattle.span.proofs.tints.put_colour.Goals as goal

pub loop-k-preserved : goal.loop-k-preserved
loop-k-preserved c = put-more _ c.requires.0 c.loop-k.invariant c.loop-k-test.true c.requires.1 c.repeated-p.ensures
    c.pixels-q.ensures c.joined-w.ensures c.halves-h.ensures c.store.ensures
