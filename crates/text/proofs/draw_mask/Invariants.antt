-- `draw_mask` meets its contract: before each turn the bits that are left, drawn over the line,
-- give the whole. The measure is those bits as a number, which a run taken off makes smaller.
-- Assumes nothing.
use mathlib.Core.Path.{◌≡◌}
use Prim.Native.Nat.{◌<◌}
use Rattle.lists.specs.Tab.{each}
use Rattle.draw.specs.Text.{glyph_columns, row_after}
use Rattle.draw.specs.Engine.Rows.{mask_ink}
use Rattle.text.proofs.draw_mask.Given as goal

abbrev pub invariant-loop-rest : goal.invariant-loop-rest
invariant-loop-rest l = (l.rest < 256)
    × (each (row_after (mask_ink l.rest l.colour) glyph_columns l.cell.z l.cell.x) l.line
    ≡ each (row_after (mask_ink l.mask l.colour) glyph_columns l.cell.z l.cell.x) l.initial.line)

abbrev pub decreases-loop-rest : goal.decreases-loop-rest
decreases-loop-rest l = l.rest
