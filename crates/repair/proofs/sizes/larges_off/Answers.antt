-- `repair::sizes::larges_off` meets its contract: each layer's step is `large_off`. Assumes nothing.
use Rattle.repair.specs.Steps.{large_off, larges_off}
use Rattle.repair.proofs.StepLaws.{steps_run}
use Rattle.repair.proofs.sizes.larges_off.Goals as goal

pub returns : goal.returns
unfolding larges_off
returns c = steps_run _ large_off _ 8 _ c.each_layer.ensures (λ n v r p. p.1)
