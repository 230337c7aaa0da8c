-- `span::grounds::lay_opaque` meets its contract: the loop has laid a part of the run, from `from` up to i, where an
-- opaque block begins; the measure is what is left. Assumes nothing.
use mathlib.Core.Bool.{false}
use Prim.Native.Nat.{◌-◌}
use lib.ListN.{length}
use Rattle.sixteen.specs.Engine.Lanes.{Reach, anew}
use Rattle.colours.specs.Rows.{word_byte}
use Rattle.span.specs.Engine.Laid.{lay_byte, OpaqueAt}
use Rattle.span.proofs.grounds.lay_opaque.Given as goal

abbrev pub invariant-loop-q : goal.invariant-loop-q
invariant-loop-q l = Reach l.out l.initial.out (anew (lay_byte l.over false 0 (word_byte l.c))) l.from l.i × OpaqueAt l.over l.i

abbrev pub decreases-loop-q : goal.decreases-loop-q
decreases-loop-q l = length l.initial.out - l.i
