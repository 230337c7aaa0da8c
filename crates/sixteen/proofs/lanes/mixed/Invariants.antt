-- `sixteen::lanes::mixed` meets its contract: the loop has filled the first k words as the contract says. Assumes
-- nothing.
use Rattle.sixteen.specs.Engine.Lanes.{MixIs}
use Rattle.sixteen.proofs.LaneLaws.{Filled}
use Rattle.sixteen.proofs.lanes.mixed.Given as goal

abbrev pub invariant-loop-k : goal.invariant-loop-k
invariant-loop-k l = Filled l.w 32 l.k (MixIs l.alphas l.over l.under)
