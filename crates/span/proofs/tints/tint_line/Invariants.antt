-- `span::tints::tint_line` meets its contract: the loop has done the indexes up to j; the measure is what is left. Assumes
-- nothing.
use mathlib.Core.Bool.{false}
use Prim.Native.Nat.{◌-◌, ◌*◌}
use lib.ListN.{length}
use Rattle.sixteen.specs.Engine.Lanes.{Front}
use Rattle.colours.specs.Rows.{colour_row}
use Rattle.span.specs.Span.{over_byte}
use Rattle.span.proofs.tints.tint_line.Given as goal

abbrev pub invariant-loop-j : goal.invariant-loop-j
invariant-loop-j l = Front l.out l.initial.out (over_byte (colour_row l.line l.palette) false 0) (4 * l.j)

abbrev pub decreases-loop-j : goal.decreases-loop-j
decreases-loop-j l = length l.line - l.j
