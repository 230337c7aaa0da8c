-- `span::tints::tint_rest` meets its contract: the loop has done the pixels of the indexes from `from` up to j. Assumes
-- nothing.
use mathlib.Core.Bool.{false}
use Prim.Native.Nat.{◌*◌}
use Rattle.sixteen.specs.Engine.Lanes.{Reach}
use Rattle.colours.specs.Rows.{colour_row}
use Rattle.span.specs.Span.{over_byte}
use Rattle.span.proofs.tints.tint_rest.Given as goal

abbrev pub invariant-loop-j : goal.invariant-loop-j
invariant-loop-j l = Reach l.out l.initial.out (over_byte (colour_row l.line l.palette) false 0) (4 * l.from) (4 * l.j)
