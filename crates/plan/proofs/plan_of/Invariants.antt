-- `plan::plan_of` meets its contract: the invariant is that the part's layers among the first i
-- of the order are planned, and their bits set. Assumes nothing.
use Rattle.plan.proofs.PlanLaws.{PlannedTo}
use Rattle.plan.proofs.plan_of.Given as goal

abbrev pub invariant-loop-i : goal.invariant-loop-i
invariant-loop-i l = PlannedTo l.bits l.w l.frame l.tables l.part l.errors l.i l.plan
