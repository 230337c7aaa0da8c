-- `display::doors::spoonwing_display_put` meets its contract: the call does not see what is held for painting.
-- Assumes nothing.
use Rattle.display.proofs.BareLaws.{put-blind}
use Rattle.display.proofs.DoorCases.{bare-answer, bare-state}
use Rattle.display.proofs.doors.spoonwing_display_put.Goals as goal

pub returns-clause-answer : goal.returns-clause-answer
returns-clause-answer c =
    bare-answer _ _ _ _ c.if-state-ne-STATE_LEN.false _ c.given.ensures.answer c.put.ensures.state c.bare.ensures (put-blind _)

pub returns-clause-state : goal.returns-clause-state
returns-clause-state c =
    bare-state _ _ _ _ c.if-state-ne-STATE_LEN.false _ c.given.ensures.state c.put.ensures.state c.bare.ensures (put-blind _)
