-- `span::grounds::lay_opaque` meets its contract: the loop has laid a part of the run, from `from` up to i, where an
-- opaque block begins; the measure is what is left. Assumes nothing.
use borrow.Author.Rules.{rules}
use native.Mathlib.Omega.{arith}
use Rattle.span.proofs.GroundLaws.{opaque-more}
use Rattle.span.proofs.grounds.lay_opaque.Goals as goal

pub loop-q-preserved : goal.loop-q-preserved
loop-q-preserved c = let turn = c.loop-q in let i = turn.invariant in
    let more =
    opaque-more _ _ i.0 (omega (arith, i.1.fits, c.requires.0)) i.1.opaque c.pixels-p.ensures
    c.repeated-q.ensures c.joined-w.ensures
    c.halves-h.ensures c.store.ensures in
    (more, c.is_opaque_at.ensures c.if-not-is_opaque_at.false)

pub returns : goal.returns
returns c = let turn = c.loop-q in let i = turn.invariant in
    let more =
    opaque-more _ _ i.0 (omega (arith, i.1.fits, c.requires.0)) i.1.opaque c.pixels-p.ensures
    c.repeated-q.ensures c.joined-w.ensures
    c.halves-h.ensures c.store.ensures in
    record { reach = more; some = search rules }
