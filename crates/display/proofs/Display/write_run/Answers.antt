-- `display::Display::write_run` meets its contract: what `loads` makes of the pending words is what the writes
-- leave. Assumes nothing.
use Rattle.display.proofs.RunLaws.{write-run-is}
use Rattle.display.proofs.Display.write_run.Goals as goal

pub returns : goal.returns
returns c = write-run-is _ _ _ _ c.write_run-went.ensures.went c.write_run-went.ensures.pending
