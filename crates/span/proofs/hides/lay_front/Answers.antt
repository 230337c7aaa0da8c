-- `span::hides::lay_front` meets its contract: the loop has laid the run from its front up to i, all of it opaque; the
-- measure is what is left. Assumes nothing.
use Rattle.span.proofs.HideLaws.{front-more}
use Rattle.span.proofs.hides.lay_front.Goals as goal

-- ---- a turn of the loop, at an opaque block

pub loop-q-preserved : goal.loop-q-preserved
loop-q-preserved c =
    let i = c.loop-q.invariant in
    front-more _ _ _ _ i.0 i.1 c.requires (c.is_opaque_at.ensures c.loop-q-test.true) c.solid_pixel-c.ensures
    c.pixels-p.ensures c.repeated-q.ensures c.joined-w.ensures c.halves-h.ensures c.store.ensures
