-- `scanline::ground::lay_layer` meets its contract: the row of a picture takes up the whole line. Assumes nothing.
use mathlib.Core.Path.{sym, ◌∙◌}
use Rattle.lists.proofs.Tab.{length-each}
use Rattle.scanline.proofs.LineLaws.{step-whole}
use Rattle.scanline.proofs.ground.lay_layer.Goals as goal

pub returns : goal.returns
returns c =
    let laid = c.lay_picture.ensures in
    record {
      over = λ s same long m.
          step-whole s _ _ m c.requires.on_row.0 laid.row (laid.made.own s same m) _ _ long
          (c.requires.on_row.1 ∙ sym (length-each _ _)) laid.over;
    }
