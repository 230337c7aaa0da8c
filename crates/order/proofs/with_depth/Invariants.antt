-- `order::with_depth` meets its contract: the invariant is that the layers below n have been looked at.
-- Assumes nothing.
use mathlib.Core.Path.{◌≡◌}
use Rattle.order.specs.Layout.{packed}
use Rattle.order.specs.Engine.Found.{found as found_to}
use Rattle.order.proofs.with_depth.Given as goal

abbrev pub invariant-loop-n : goal.invariant-loop-n
invariant-loop-n l = l.found ≡ packed (found_to l.w l.d l.n)
