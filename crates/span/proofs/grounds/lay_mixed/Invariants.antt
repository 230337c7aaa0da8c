-- `span::grounds::lay_mixed` meets its contract: the loop has laid a part of the run, from `from` up to i, where another
-- block begins; the measure is what is left. Assumes nothing.
use mathlib.Core.Bool.{false}
use Prim.Native.Nat.{◌+◌, ◌-◌, ◌≤◌}
use lib.ListN.{length}
use Rattle.sixteen.specs.Engine.Lanes.{Reach, anew}
use Rattle.colours.specs.Rows.{word_byte}
use Rattle.span.specs.Engine.Laid.{lay_byte}
use Rattle.span.proofs.grounds.lay_mixed.Given as goal

abbrev pub invariant-loop-u : goal.invariant-loop-u
invariant-loop-u l = Reach l.out l.initial.out (anew (lay_byte l.over false 0 (word_byte l.c))) l.from l.i × (l.i + 64 ≤ length l.initial.out)

abbrev pub decreases-loop-u : goal.decreases-loop-u
decreases-loop-u l = length l.initial.out - l.i
