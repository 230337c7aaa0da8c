-- `span::hides::lay_front` meets its contract: the loop has laid the run from its front up to i, all of it opaque; the
-- measure is what is left. Assumes nothing.
use mathlib.Core.Bool.{false}
use Prim.Native.Nat.{◌-◌, ◌/◌}
use lib.ListN.{length}
use Rattle.sixteen.specs.Engine.Lanes.{Front, AllAlpha, anew}
use Rattle.colours.specs.Rows.{solid_byte}
use Rattle.span.specs.Engine.Laid.{lay_byte}
use Rattle.span.proofs.hides.lay_front.Given as goal

abbrev pub invariant-loop-q : goal.invariant-loop-q
invariant-loop-q l = Front l.out l.initial.out (anew (lay_byte l.over false 0 (solid_byte l.fn.ground.c0 l.fn.ground.c1 l.fn.ground.c2))) l.i × AllAlpha l.over 0 (l.i / 4) 255

abbrev pub decreases-loop-q : goal.decreases-loop-q
decreases-loop-q l = length l.initial.out - l.i
