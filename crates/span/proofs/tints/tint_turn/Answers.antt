-- `span::tints::tint_turn` meets its contract: a stretch of one index is one of its colour. Assumes nothing.
use native.Mathlib.Omega.{arith}
use Rattle.span.proofs.TintLaws.{indexes-on, same-tint}
use Rattle.span.proofs.tints.tint_turn.Goals as goal

pub returns : goal.returns
returns c = let same = c.past_same-end.ensures in let x = c.index_of.ensures.0 in indexes-on c.requires.0 (omega (arith, same.least, c.if-end-j.false)) same.most
    (same-tint _ _ _ _ _ same (rw x at c.tint_blocks.ensures))
