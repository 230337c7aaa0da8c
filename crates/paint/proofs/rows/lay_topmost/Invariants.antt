-- `paint::rows::lay_topmost` meets its contract: the ground of the line stays what it was. Assumes nothing.
use mathlib.Core.Path.{◌≡◌}
use Rattle.lists.specs.Tab.{each}
use Rattle.scanline.specs.Engine.Lines.{under_byte}
use Rattle.paint.proofs.rows.lay_topmost.Given as goal

abbrev pub invariant-loop-i : goal.invariant-loop-i
invariant-loop-i l = each (under_byte l.painting.ground) l.line ≡ each (under_byte l.painting.ground) l.initial.line
