-- `repair::depths::spread` meets its contract: where the layers below n had their turn a depth is free when one is
-- needed. Assumes nothing.
use mathlib.Core.Path.{refl}
use borrow.Author.Rules.{rules}
use Rattle.repair.specs.Steps as steps
use Rattle.repair.proofs.StepLaws.{steps-reached}
use Rattle.repair.proofs.DepthLaws.{turn-room}
use Rattle.repair.proofs.depths.spread.Goals as goal

pub returns : goal.returns
unfolding steps.spread
returns c =
    steps-reached _ (steps.spread_at c.args.w) _ 8 _ c.each_layer.ensures
    (λ n r lt p. p.1 (turn-room c.args.w _ n (search rules) refl lt))
