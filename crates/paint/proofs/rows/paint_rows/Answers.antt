-- `paint::rows::paint_rows` meets its contract: the ground is the fresh one's. Assumes nothing.
use Rattle.paint.proofs.rows.paint_rows.Goals as goal

pub returns-then-plan : goal.returns-then-plan
returns-then-plan c = rw c.ground_if.ensures.fresh at c.draw_rows.ensures

pub returns : goal.returns
returns c = rw c.ground_if.ensures.fresh at c.lay_lines.ensures
