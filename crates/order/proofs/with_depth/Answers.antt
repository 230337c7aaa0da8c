-- `order::with_depth` meets its contract: the invariant is that the layers below n have been looked at.
-- Assumes nothing.
use mathlib.Core.Path.{ap, ◌∙◌}
use native.Mathlib.Omega.{arith}
use Rattle.order.specs.Layout.{packed}
use Rattle.order.proofs.PackedLaws.{found_none, order-depth}
use Rattle.order.proofs.with_depth.Goals as goal

pub loop-n-init : goal.loop-n-init
loop-n-init c = c.requires.1 ∙ ap packed (found_none _ _)

pub returns : goal.returns
returns c = order-depth _ _ _ _ (omega arith) (omega arith) c.loop-n.invariant
