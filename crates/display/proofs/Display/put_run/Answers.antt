-- `display::Display::put_run` meets its contract: what `loads` loads is what the puts leave. Assumes nothing.
use Rattle.std.proofs.Common.{◌∙◌}
use Rattle.display.proofs.RunLaws.{put-run-is}
use Rattle.display.proofs.Display.put_run.Goals as goal

pub returns : goal.returns
returns c =
    let bits = c.bits_of-bits.ensures.0 in
    let r = put-run-is _ _ _ _ _ (rw bits at c.put_run-loaded.ensures.loaded) (rw bits at c.put_run-loaded.ensures.tables) in
    record {
      state = c.laden.ensures ∙ r.0;
      tables = r.1;
    }
