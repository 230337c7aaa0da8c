-- `paint::rows::lay_topmost` meets its contract: the ground of the line stays what it was. Assumes nothing.
use mathlib.Core.Path.{◌∙◌}
use Prim.Native.Nat.{◌-◌, ◌<◌}
use native.Mathlib.Omega.{arith}
use Rattle.scanline.proofs.GroundLaws.{under-anew}
use Rattle.paint.proofs.BegunLaws.{laid-hiding}
use Rattle.paint.proofs.rows.lay_topmost.Goals as goal

pub returns-then-lay_hiding-clause-topmost : goal.returns-then-lay_hiding-clause-topmost
returns-then-lay_hiding-clause-topmost c =
    let below : c.loop-i.i - 1 < c.args.plan.now.count = omega (arith, c.loop-i-test.true, c.loop-i.auto.i) in
    let hides = c.lay_hiding.ensures c.if-lay_hiding.true in
    (below, laid-hiding _ _ _ _ _ _ _ _ c.loop-i.auto.line c.loop-i.invariant _ _ _ c.in_ok-ground.was below hides)

pub returns-then-lay_hiding-clause-ground : goal.returns-then-lay_hiding-clause-ground
returns-then-lay_hiding-clause-ground c =
    under-anew _ _ _ _ c.in_ok-ground.was c.lay_hiding.auto.line ∙ c.loop-i.invariant

pub loop-i-preserved : goal.loop-i-preserved
loop-i-preserved c = under-anew _ _ _ _ c.in_ok-ground.was c.lay_hiding.auto.line ∙ c.loop-i.invariant
