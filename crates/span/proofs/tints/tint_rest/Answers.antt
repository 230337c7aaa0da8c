-- `span::tints::tint_rest` meets its contract: the loop has done the pixels of the indexes from `from` up to j. Assumes
-- nothing.
use Rattle.span.proofs.TintLaws.{pixel-more}
use Rattle.span.proofs.tints.tint_rest.Goals as goal

pub loop-j-preserved : goal.loop-j-preserved
loop-j-preserved c = pixel-more c.args.line.now c.args.palette.now _ _ c.loop-j.invariant c.requires.0
    c.loop-j-test.true c.tint_pixel.ensures c.index_of.ensures.0
