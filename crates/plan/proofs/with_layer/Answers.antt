-- `plan::with_layer` meets its contract: a layer of another depth changes nothing; else its bit is set where its
-- list has no END, and where it is on one of the lines it goes to the first free step. Assumes nothing.
use mathlib.Core.Path.{sym, ◌∙◌}
use Rattle.lists.proofs.Tab.{get_d-tab}
use Rattle.plan.proofs.PlanLaws.{grown-beside, grown-taken, mark-by}
use Rattle.plan.proofs.with_layer.Goals as goal

pub returns-then-not-is_reached : goal.returns-then-not-is_reached
returns-then-not-is_reached c =
    let l = c.layer_of-layer.ensures in
    grown-beside _ _ _ _ _ _ _ _ (sym (rw l at c.is_within.ensures) ∙ c.if-not-is_within.false)
    (mark-by _ _ _ _ _ _ _ l c.end_of-end.ensures c.mark.ensures)
    (sym (rw l at c.is_reached.ensures) ∙ c.if-not-is_reached.true)

pub step_of-step-requires : goal.step_of-step-requires
step_of-step-requires c =
    let pre = c.requires in
    (pre.0, rw pre.1 (get_d-tab 8 _ _ pre.0), λ g. c.end_of-end.ensures (rw c.layer_of-layer.ensures g))

pub returns : goal.returns
returns c =
    let l = c.layer_of-layer.ensures in
    grown-taken _ _ _ _ _ _ _ _ (sym (rw l at c.is_within.ensures) ∙ c.if-not-is_within.false)
    (mark-by _ _ _ _ _ _ _ l c.end_of-end.ensures c.mark.ensures) _ _
    (sym (rw l at c.is_reached.ensures) ∙ c.if-not-is_reached.false) c.requires.2 c.step_of-step.ensures
    c.pushed.ensures
