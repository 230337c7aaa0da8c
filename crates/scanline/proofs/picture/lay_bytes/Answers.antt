-- `scanline::picture::lay_bytes` meets its contract: the row's part of the picture is the layer's row. Assumes nothing.
use Rattle.scanline.proofs.LineLaws.{picture-own}
use Rattle.scanline.proofs.picture.lay_bytes.Goals as goal

pub returns : goal.returns
returns c = record {
  row = _;
  made = record {
    own = λ s same m. picture-own s _ _ m _ _ same c.row_start-from.ensures c.requires.on_row.2 c.requires.on_row.3;
  };
  over = c.lay_run.ensures;
}
