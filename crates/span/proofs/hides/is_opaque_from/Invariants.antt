-- `span::hides::is_opaque_from` meets its contract: the pixels from `from` up to i are opaque. Assumes nothing.
use Prim.Native.Nat.{◌-◌, ◌/◌}
use Rattle.sixteen.specs.Engine.Lanes.{AllAlpha}
use Rattle.span.proofs.hides.is_opaque_from.Given as goal

abbrev pub invariant-loop-k : goal.invariant-loop-k
invariant-loop-k l = AllAlpha l.over l.from (l.k - l.from / 4) 255
