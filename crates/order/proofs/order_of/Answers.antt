-- `order::order_of` meets its contract: the invariant is that the layers of depths below d have been found.
-- Assumes nothing.
use native.Mathlib.Omega.{arith}
use Rattle.order.proofs.PackedLaws.{order-none, order-all}
use Rattle.order.proofs.order_of.Goals as goal

pub loop-d-init : goal.loop-d-init
loop-d-init c = order-none _

pub returns : goal.returns
returns c = order-all _ _ _ (omega arith) (omega arith) c.loop-d.invariant
