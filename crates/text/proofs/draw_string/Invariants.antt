-- `draw_string` meets its contract: before each turn i characters are drawn, the next cell begins
-- where they end, and what is left of the string gives how many it shows; from the line's end on it
-- changes nothing. Assumes nothing.
use mathlib.Core.Path.{◌≡◌}
use Prim.Native.Nat.{◌+◌, ◌-◌, ◌*◌, ◌≤◌}
use Rattle.lists.specs.Tab.{each}
use Rattle.lists.specs.Zero.{zero_from}
use Rattle.tables.specs.Geometry.{string_len}
use Rattle.draw.specs.Text.{glyph_columns, character, characters_of, row_after, string_ink}
use Rattle.text.proofs.draw_string.Given as goal

abbrev pub invariant-loop-i : goal.invariant-loop-i
invariant-loop-i l = (l.at ≤ l.first.x + 64 * l.i) × (l.at ≡ l.first.x + glyph_columns * l.i * l.first.z)
    × (zero_from (string_len - l.i) (character l.banks.strings.now l.n) l.i ≡ characters_of l.banks.strings.now l.n)
    × (l.line ≡ each (row_after (string_ink l.banks.bits l.banks.strings.now l.banks.font.now l.n l.row l.first.colour)
    (glyph_columns * l.i) l.first.z l.first.x) l.initial.line)
