-- `paint::rows::put_extents` meets its contract: the list's spans stand in their places, and nothing before them is
-- written. Assumes nothing.
use mathlib.Core.Path.{◌∙◌}
use Prim.Native.Nat.{◌≤◌}
use Rattle.draw.proofs.IndexLaws.{count_of-le}
use Rattle.plan.proofs.PartLaws.{length-lent}
use Rattle.paint.proofs.ExtentLaws.{extends-beside, extends-lent}
use Rattle.paint.proofs.rows.put_extents.Goals as goal

pub returns-then-not-step : goal.returns-then-not-step
returns-then-not-step c = extends-beside _ _ _ _ c.if-not-step.true

-- ---- a graphics layer

pub list_spans-requires : goal.list_spans-requires
list_spans-requires c =
    let banked = c.requires.1 c.if-not-step.false in
    let few : c.args.step.now.end.count ≤ 48 = rw banked.count (count_of-le _) in
    (length-lent _ _ _ banked.list, few, rw (length-lent _ _ _ c.requires.0) few)

pub returns : goal.returns
returns c =
    extends-lent _ _ _ _ _ c.requires.0 (c.list_spans.auto.spans ∙ length-lent _ _ _ c.requires.0) c.list_spans.ensures
