-- `span::tints::mix_colour` meets its contract: a turn mixes one block more. Assumes nothing.
use Rattle.span.proofs.TintLaws.{mix-more}
use Rattle.span.proofs.tints.mix_colour.Goals as goal

pub loop-k-preserved : goal.loop-k-preserved
loop-k-preserved c = mix-more _ c.requires c.loop-k.invariant c.loop-k-test.true c.repeated-p.ensures c.halves-o.ensures
    c.own_alphas-a.ensures c.words-u.ensures c.mixed-w.ensures c.store.ensures
