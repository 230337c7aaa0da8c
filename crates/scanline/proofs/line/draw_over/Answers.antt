-- `scanline::line::draw_over` meets its contract: what was drawn, through the layer's colours, is the layer's row. Assumes
-- nothing.
use lib.Seq.{length-take-le}
use Rattle.scanline.proofs.LineLaws.{graphics-own}
use Rattle.scanline.proofs.line.draw_over.Goals as goal

pub returns : goal.returns
returns c =
    record {
      row = _;
      made = record {
        own = λ s same m.
            graphics-own s _ _ m _ _ _ same c.requires.on_row.2.graphics (rw c.from.ensures at c.draw_row.ensures)
            (length-take-le _ _ c.requires.wide_bound);
      };
      over = c.tint.ensures;
    }
