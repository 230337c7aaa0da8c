-- `repair::sizes::empties_off` meets its contract: each layer's step is `empty_off`. Assumes nothing.
use Rattle.repair.specs.Steps.{empty_off, empties_off}
use Rattle.repair.proofs.StepLaws.{steps_run}
use Rattle.repair.proofs.sizes.empties_off.Goals as goal

pub returns : goal.returns
unfolding empties_off
returns c = steps_run _ empty_off _ 8 _ c.each_layer.ensures (λ n v r p. p.1)
