-- `plan::step_of` meets its contract: each field is what its call ensures; the banks lie in the tables.
-- Assumes nothing.
use mathlib.Core.Path.{refl}
use native.Mathlib.Omega.{arith}
use Rattle.tables.specs.Geometry.{kind_len}
use Rattle.frames.specs.Pixel.{bank_bytes}
use Rattle.plan.proofs.step_of.Goals as goal

pub palette_at-palette-requires : goal.palette_at-palette-requires
unfolding kind_len
palette_at-palette-requires c = omega (arith, c.active_at-colours.ensures.1)

pub returns : goal.returns
unfolding kind_len bank_bytes
returns c = let w = c.screen_width-width.ensures in let l = c.layer_of-layer.ensures in record {
  number = refl;
  layer = l;
  left = rw (l, w) at c.min-left.ensures;
  wide = rw (c.min-left.ensures, l, w)
      at c.min-wide.ensures;
  alpha = rw l at c.fade-alpha.ensures;
  start = c.requires.1;
  glyph = refl;
  list = c.active_at-list.ensures.0;
  strings = c.active_at-strings.ensures.0;
  font = c.active_at-font.ensures.0;
  end = c.requires.2;
  palette = rw c.active_at-colours.ensures.0 at c.palette_at-palette.ensures;
}
