-- `paint::rows::lay_line` meets its contract: the first i layers lie over the line. Assumes nothing.
use mathlib.Core.Path.{◌∙◌}
use Rattle.paint.proofs.BegunLaws.{laid-more}
use Rattle.paint.proofs.rows.lay_line.Goals as goal

pub loop-i-preserved : goal.loop-i-preserved
loop-i-preserved c =
    laid-more _ _ _ _ _ _ _ _ (c.loop-i.auto.line ∙ c.begin_line-from.auto.line) _ _ c.loop-i-test.true c.loop-i.invariant
    c.layer_line.ensures
