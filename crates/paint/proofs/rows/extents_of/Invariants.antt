-- `paint::rows::extents_of` meets its contract: the loop has put the spans of the first i steps. Assumes nothing.
use mathlib.Core.Path.{◌≡◌}
use lib.ListN.{length}
use Rattle.paint.proofs.ExtentLaws.{UpTo}
use Rattle.paint.proofs.rows.extents_of.Given as goal

abbrev pub invariant-loop-i : goal.invariant-loop-i
invariant-loop-i l = UpTo l.tables l.extents l.plan.steps l.i × (length l.extents ≡ 384)
