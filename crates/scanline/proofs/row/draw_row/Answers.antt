-- `scanline::row::draw_row` meets its contract: the four parts lie in their buffers, and what they draw are the layer's
-- colour indexes. Assumes nothing.
use Rattle.scanline.proofs.DrawLaws.{banked-tables, banked-count, banked-indexes, extended-spans}
use Rattle.scanline.proofs.row.draw_row.Goals as goal

pub invariant_of-banks : goal.invariant_of-banks
invariant_of-banks c = rw (c.font_len.ensures, c.from-bits.ensures) (record { tables = banked-tables _ _ c.requires.0 })

pub draw_line-requires : goal.draw_line-requires
draw_line-requires c =
    let a = c.requires in record { counted = banked-count _ _ a.0; spanned = extended-spans _ _ _ _ a.1 }

pub returns : goal.returns
returns c = banked-indexes _ _ _ _ _ (rw (c.font_len.ensures, c.from-bits.ensures) at c.draw_line.ensures)
