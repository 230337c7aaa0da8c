-- `repair::places::fit` meets its contract: each layer's step is `fit_at`. Assumes nothing.
use Rattle.repair.specs.Steps.{fit_at, fit}
use Rattle.repair.proofs.StepLaws.{steps_run}
use Rattle.repair.proofs.places.fit.Goals as goal

pub returns : goal.returns
unfolding fit
returns c = steps_run _ fit_at _ 8 _ c.each_layer.ensures (λ n v r p. p.1)
