-- `scanline::ground::is_whole_line` meets its contract: each outcome of the first test is a case of `whole_line`.
-- Assumes nothing.
use Rattle.scanline.specs.Engine.Lines.{whole_line}
use borrow.Author.Tests.{eq-eqb, ne_eqb}
use Rattle.scanline.proofs.ground.is_whole_line.Goals as goal

pub returns-then-step-pixels : goal.returns-then-step-pixels
unfolding whole_line
returns-then-step-pixels c = rw (eq-eqb _ _ c.if-step-pixels.true) c.is_on_row.ensures

pub returns-else-step-pixels : goal.returns-else-step-pixels
unfolding whole_line
returns-else-step-pixels c = rw (ne_eqb _ _ c.if-step-pixels.false)
