-- The three tables that a list is drawn from, as the workers of `text` and `pen` ask for them, with the bits of a glyph's
-- pixel. No definition of the document rests on this. Assumes nothing.
use Rattle.std.specs.Prelude.{◌≡◌, ℕ, ◌<◌, ◌≤◌, List, length}
use Rattle.tables.specs.Geometry.{list_len, strings_len, font_len}

-- each is as long as 01 "Tables" and 02 K2 have it
pub record Tables (bits : ℕ) (ins strings font : List ℕ) : Type 0 where
  pub some : 0 < bits
  pub few : bits ≤ 2
  pub ins-long : length ins ≡ list_len
  pub strings-long : length strings ≡ strings_len
  pub font-long : length font ≡ font_len bits
