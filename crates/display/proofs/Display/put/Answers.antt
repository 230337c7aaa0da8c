-- `display::Display::put` meets its contract: it is a run of one byte. Assumes nothing.
use Rattle.std.proofs.Common.{◌∙◌}
use Rattle.display.proofs.RunLaws.{put-run-is, put-is-run}
use Rattle.display.proofs.Display.put.Goals as goal

pub returns : goal.returns
returns c =
    let bits = c.bits_of-bits.ensures.0 in
    let r = put-run-is _ _ _ _ _ (rw bits at c.put_run-loaded.ensures.loaded) (rw bits at c.put_run-loaded.ensures.tables) in
    let e = put-is-run _ _ _ _ _ (c.laden.ensures ∙ r.0) r.1 in
    record {
      state = c.told_by.ensures ∙ e.0;
      tables = e.1;
    }
