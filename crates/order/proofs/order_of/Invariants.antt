-- `order::order_of` meets its contract: the invariant is that the layers of depths below d have been found.
-- Assumes nothing.
use mathlib.Core.Path.{◌≡◌}
use Rattle.words.specs.Order.{layers_below}
use Rattle.order.specs.Layout.{packed}
use Rattle.order.proofs.order_of.Given as goal

abbrev pub invariant-loop-d : goal.invariant-loop-d
invariant-loop-d l = l.found ≡ packed (layers_below l.w l.d)
