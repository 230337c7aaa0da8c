-- `order::pictures_of` meets its contract: the invariant is that the starts below n are written and the sums so far
-- are the next. Assumes nothing.
use borrow.Author.Rules.{rules}
use native.Mathlib.Omega.{arith}
use Rattle.order.proofs.StartLaws.{starts_none, starts-room, starts-next, starts-all}
use Rattle.order.proofs.pictures_of.Goals as goal

pub loop-n-init : goal.loop-n-init
loop-n-init c = starts_none _

pub with_picture-pictures-requires : goal.with_picture-pictures-requires
with_picture-pictures-requires c =
    let r = starts-room _ _ _ _ c.loop-n-test.true c.loop-n.invariant c.layer_of.ensures in (search rules, r.0, r.1)

pub loop-n-preserved : goal.loop-n-preserved
loop-n-preserved c =
    starts-next _ _ _ _ _ c.loop-n-test.true c.loop-n.invariant c.layer_of.ensures c.with_picture-pictures.ensures

pub returns : goal.returns
returns c = starts-all _ _ _ (omega arith) (omega arith) c.loop-n.invariant
