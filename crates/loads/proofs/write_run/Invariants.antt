-- `loads::write_run` meets its contract: the invariant is that what is left from item i on gives the whole run.
-- Assumes nothing.
use Rattle.loads.proofs.WriteLaws.{Left}
use Rattle.loads.proofs.write_run.Given as goal

abbrev pub invariant-loop-i : goal.invariant-loop-i
invariant-loop-i l = Left l.initial.pending l.run l.items l.pending l.i
