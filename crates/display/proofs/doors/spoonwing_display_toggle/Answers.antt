-- `display::doors::spoonwing_display_toggle` meets its contract: the call does not see what is held for painting.
-- Assumes nothing.
use Rattle.display.proofs.BareLaws.{toggle-blind}
use Rattle.display.proofs.DoorCases.{bare-state}
use Rattle.display.proofs.doors.spoonwing_display_toggle.Goals as goal

pub returns-clause-state : goal.returns-clause-state
returns-clause-state c =
    bare-state _ _ _ _ c.if-state-ne-STATE_LEN.false _ c.given.ensures.state c.toggle.ensures c.bare.ensures (toggle-blind _)
