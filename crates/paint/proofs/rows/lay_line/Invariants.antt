-- `paint::rows::lay_line` meets its contract: the first i layers lie over the line. Assumes nothing.
use Rattle.scanline.specs.Engine.Lines.{LentBy}
use Rattle.paint.specs.Engine.Rows.{LaidTo}
use Rattle.paint.proofs.rows.lay_line.Given as goal

abbrev pub invariant-loop-i : goal.invariant-loop-i
invariant-loop-i l = LaidTo (LentBy l.painting) l.painting.ground l.plan l.i l.y l.fn.line l.line
