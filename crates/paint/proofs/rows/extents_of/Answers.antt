-- `paint::rows::extents_of` meets its contract: the loop has put the spans of the first i steps. Assumes nothing.
use mathlib.Core.Path.{◌∙◌}
use Rattle.paint.proofs.ExtentLaws.{extents-more}
use Rattle.paint.proofs.rows.extents_of.Goals as goal

pub loop-i-preserved : goal.loop-i-preserved
loop-i-preserved c =
    let i = c.loop-i.invariant in
    let x = c.put_extents.ensures in
    (extents-more _ _ _ c.args.plan.now.steps _ i.0 x, x.long ∙ i.1)
