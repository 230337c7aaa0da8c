-- `draw_line` meets its contract: before each turn the line is as the first k instructions draw it, and one whose
-- span has no such row leaves it so. Assumes nothing.
use mathlib.Core.Path.{◌≡◌}
use Prim.Native.Nat.{◌≤◌}
use lib.ListN.{length}
use Rattle.lists.specs.Tab.{tab}
use Rattle.tables.specs.Geometry.{instructions}
use Rattle.draw.specs.Drawing.{drawn_to}
use Rattle.pen.proofs.draw_line.Given as goal

abbrev pub invariant-loop-k : goal.invariant-loop-k
invariant-loop-k l = (l.count ≤ instructions) × (l.line ≡ tab (length l.initial.line)
    (drawn_to l.banks.bits l.banks.list.now l.banks.strings.now l.banks.font.now l.k l.v))
