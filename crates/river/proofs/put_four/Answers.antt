-- `river::put_four` meets its contract: the front grows by the four pixels. Assumes nothing.
use Rattle.river.proofs.RowLaws.{front-four}
use Rattle.river.proofs.put_four.Goals as goal

pub returns : goal.returns
returns c = front-four c.requires.1 c.requires.0 c.pixel_at-p0.ensures
    c.pixel_at-p1.ensures c.pixel_at-p2.ensures c.pixel_at-p3.ensures
    c.put_pixels.ensures
