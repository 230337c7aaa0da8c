-- `display::doors::spoonwing_display_start` meets its contract: a start does not see what is held for
-- painting, and leaves it. Assumes nothing.
use Rattle.display.proofs.DoorLaws.{door-bare}
use Rattle.display.proofs.BareLaws.{start-blind}
use Rattle.display.proofs.doors.spoonwing_display_start.Goals as goal

pub returns : goal.returns
returns c =
    let r =
    door-bare _ _ _ start-blind _ _ _ _ c.if-state-ne-STATE_LEN.false c.bare.ensures c.begun.ensures
    c.given.ensures.answer c.given.ensures.state in
    record { answer = r.0; state = r.1 }
