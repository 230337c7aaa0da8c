-- `display::doors::spoonwing_display_write_run` meets its contract: the run does not see what is held for painting, and
-- its count is told. Assumes nothing.
use Rattle.std.proofs.Common.{ap, ◌∙◌}
use Rattle.display.specs.declared.Ran.{Ran}
use Rattle.display.specs.Runs.{told_by}
use Rattle.display.proofs.DoorLaws.{read-bare}
use Rattle.display.proofs.BareLaws.{write-run-blind, write-run-done-blind}
use Rattle.display.proofs.DoorCases.{bare-answer, bare-state}
use Rattle.display.proofs.doors.spoonwing_display_write_run.Goals as goal

pub returns-clause-answer : goal.returns-clause-answer
returns-clause-answer c =
    bare-answer _ _ _ _ c.if-state-ne-STATE_LEN.false _ c.given.ensures.answer
    (c.told_by.ensures ∙ ap told_by c.write_run-ran.ensures) c.bare.ensures (write-run-blind _)

pub returns-clause-state : goal.returns-clause-state
returns-clause-state c =
    bare-state _ _ _ _ c.if-state-ne-STATE_LEN.false _ c.given.ensures.state
    (c.told_by.ensures ∙ ap told_by c.write_run-ran.ensures) c.bare.ensures (write-run-blind _)

pub returns-clause-count : goal.returns-clause-count
returns-clause-count c =
    read-bare _ _ (write-run-done-blind _) _ _ c.if-state-ne-STATE_LEN.false c.bare.ensures
    (ap (λ (r : Ran). r.done) c.write_run-ran.ensures)
