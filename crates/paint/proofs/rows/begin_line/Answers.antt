-- `paint::rows::begin_line` meets its contract: where no layer hides all under it the line has the ground that it had.
-- Assumes nothing.
use Rattle.paint.proofs.BegunLaws.{laid-first}
use Rattle.paint.proofs.rows.begin_line.Goals as goal

pub returns-clause-begun : goal.returns-clause-begun
returns-clause-begun c =
    laid-first _ _ _ _ _ _ _ _ c.lay_topmost.auto.line c.lay_topmost.ensures.ground _ _ c.lay_first.ensures.laid
