-- `plan::plan_of` meets its contract: the invariant is that the part's layers among the first i
-- of the order are planned, and their bits set. Assumes nothing.
use mathlib.Core.Path.{◌≡◌, ap, ◌∙◌}
use native.Mathlib.Omega.{arith}
use Rattle.plan.proofs.PlanLaws.{plan-none, plan-next, plan-all, plan-room}
use mathlib.Core.List.{List}
use Prim.Native.Nat.{ℕ, ◌<◌}
use lib.ListN.{length, get_or}
use Rattle.order.specs.declared.Order.{Order}
use Rattle.order.specs.declared.Layout.{Layout}
use Rattle.order.specs.Layout.{layout_of}
use Rattle.words.specs.Order.{order_of}
use Rattle.words.proofs.OrderLaws.{order_of-enabled, length-order_of-le}
use Rattle.order.proofs.PackedLaws.{packed-at}
use Rattle.order.proofs.LayoutLaws.{held-order, held-count, held-starts}
use Rattle.plan.proofs.plan_of.Goals as goal

pub loop-i-init : goal.loop-i-init
loop-i-init c = plan-none _ _ _ _ _ _ _ c.empty-plan.ensures

-- ---- the held order is that of the words

module _ (w : List ℕ) (held : Layout) (i : ℕ) (e : held ≡ layout_of w) (h : i < held.order.count) where
  few : i < length (order_of w)
  few = omega (arith, held-count _ _ e)

  layer-at : get_or held.order.layers i 0 ≡ get_or (order_of w) i 0
  layer-at = ap (λ (o : Order). get_or o.layers i 0) (held-order _ _ e) ∙ packed-at (order_of w) i few

  layer-lt : get_or held.order.layers i 0 < 8
  layer-lt = rw layer-at (order_of-enabled _ _ few).0

pub bounds-layers-i : goal.bounds-layers-i
bounds-layers-i c = omega (arith, few _ _ _ c.requires.1 c.loop-i-test.true, length-order_of-le c.args.w.now)

pub with_layer-plan-requires : goal.with_layer-plan-requires
with_layer-plan-requires c =
    let e = c.requires.1 in
    let h = c.loop-i-test.true in (
      layer-lt _ _ _ e h,
      held-starts _ _ e,
      plan-room _ _ _ _ _ _ _ _ (few _ _ _ e h) c.loop-i.invariant,
    )

pub loop-i-preserved : goal.loop-i-preserved
loop-i-preserved c =
    let e = c.requires.1 in
    let h = c.loop-i-test.true in
    plan-next _ _ _ _ _ _ _ _ _ _ (few _ _ _ e h) (layer-at _ _ _ e h) c.loop-i.invariant c.with_layer-plan.ensures

pub returns : goal.returns
returns c =
    let a = c.args in
    let e = held-count _ _ c.requires.1 in
    let r = plan-all a.bits a.w.now a.frame a.tables.now _ _ c.loop-i.i _ (omega arith) c.loop-i.invariant in
    record { layers = r.0; errors = r.1 }
