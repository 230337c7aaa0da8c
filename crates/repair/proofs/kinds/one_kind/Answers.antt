-- `repair::kinds::one_kind` meets its contract: each layer's step is `one_kind_at`. Assumes nothing.
use Rattle.repair.specs.Steps.{one_kind_at, one_kind}
use Rattle.repair.proofs.StepLaws.{steps_run}
use Rattle.repair.proofs.kinds.one_kind.Goals as goal

pub returns : goal.returns
unfolding one_kind
returns c = steps_run _ one_kind_at _ 8 _ c.each_layer.ensures (λ n v r p. p.1)
