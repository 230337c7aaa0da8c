-- `draw_glyph` meets its contract: a blank row leaves the line, and before each turn the columns of the values up to this
-- one are drawn. Assumes nothing.
use mathlib.Core.Path.{◌≡◌}
use Rattle.lists.specs.Tab.{each}
use Rattle.draw.specs.Text.{glyph_columns, row_after}
use Rattle.text.proofs.TextLaws.{values_ink}
use Rattle.text.proofs.draw_glyph.Given as goal

abbrev pub invariant-loop-value : goal.invariant-loop-value
invariant-loop-value l =
    l.line ≡ each (row_after (values_ink l.bits l.row l.cell.colour l.value) glyph_columns l.cell.z l.cell.x) l.initial.line
