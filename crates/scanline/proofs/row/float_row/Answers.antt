-- `scanline::row::float_row` meets its contract: each byte is that of its float. Assumes nothing.
use Rattle.scanline.proofs.LineLaws.{float_own}
use Rattle.scanline.proofs.row.float_row.Goals as goal

pub returns : goal.returns
returns c = record {
  own = λ s same m.
      float_own s _ _ m _ _ _ same c.row_start-from.ensures c.requires.graphics_value.0
      c.requires.graphics_value.1 c.to_bytes.ensures;
}
