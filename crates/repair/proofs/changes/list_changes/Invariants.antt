-- `repair::changes::list_changes` meets its contract: the invariant is that the entries of words below i are
-- listed. Assumes nothing.
use mathlib.Core.Path.{◌≡◌}
use lib.ListN.{length}
use Rattle.repair.proofs.ListLaws.{Listed}
use Rattle.repair.proofs.changes.list_changes.Given as goal

abbrev pub invariant-loop-i : goal.invariant-loop-i
invariant-loop-i l = (length l.initial.list ≡ 156) × Listed l.old l.new l.initial.list l.i l.count l.list
