-- `display::doors::bare` meets its contract: each part is what the call for it ensures. Assumes nothing.
use Rattle.display.proofs.DoorLaws.{bare-all}
use Rattle.display.proofs.doors.bare.Goals as goal

pub returns : goal.returns
returns c = bare-all _ _ _ _ _ _ _ _ _ _ c.words_at-pending.ensures
    c.words_at-active.ensures
    c.word_at-frame.ensures
    c.word_at-errors.ensures
    c.word_at-made.ensures
    c.word_at-number.ensures c.word_at-place.ensures
    c.word_at-chosen.ensures c.no_layers.ensures
