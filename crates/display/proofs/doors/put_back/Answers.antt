-- `display::doors::put_back` meets its contract: three parts, one behind another. Assumes nothing.
use Rattle.std.proofs.Common.{rules, ◌∙◌}
use Rattle.display.proofs.DoorLaws.{flag-is, state-bytes}
use Rattle.display.proofs.doors.put_back.Goals as goal

pub returns : goal.returns
returns c = state-bytes _ c.args.state.now _ _ _ _ _ (search rules) (search rules) c.requires
    (c.from-made.ensures ∙ flag-is _) c.choices_of-chosen.ensures
    c.put_words.ensures c.put_words-2.ensures
    c.put_words-3.ensures
