-- `runs::fill_run` meets its contract: below u the line is as the rule says, which leaves what stands
-- before a and from e on. Assumes nothing.
use lib.ListN.{get_or}
use Rattle.lists.proofs.Upto.{Upto}
use Rattle.draw.specs.Engine.Rows.{run_after}
use Rattle.draw.proofs.runs.fill_run.Given as goal

abbrev pub invariant-loop-u : goal.invariant-loop-u
invariant-loop-u l = Upto l.line l.initial.line (λ i. run_after l.a l.e l.colour i (get_or l.initial.line i 0)) l.u
