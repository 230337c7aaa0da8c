-- `paint::rows::lay_lines` meets its contract: the first k lines are painted. Assumes nothing.
use mathlib.Core.Path.{◌≡◌}
use Rattle.std.specs.Prelude.{is_some}
use Rattle.lists.specs.Tab.{each}
use Rattle.frames.specs.Scene.{Scene}
use Rattle.plan.specs.Engine.Plan.{OfPart}
use Rattle.paint.specs.Engine.Rows.{rows_byte, Holds}
use Rattle.paint.proofs.rows.lay_lines.Given as goal

abbrev pub invariant-loop-k : goal.invariant-loop-k
invariant-loop-k l = (s : Scene) → Holds l.fn.w l.painting.tables.now l.painting.pictures.now l.painting.floats.now s
    → OfPart s l.fn.part l.plan
    → l.out ≡ each (rows_byte s l.fn.part (is_some l.painting.ground) l.k) l.initial.out
