-- `sixteen::lanes::words` meets its contract: the loop has filled the first k words as the contract says. Assumes
-- nothing.
use Rattle.sixteen.specs.Engine.Lanes.{WordIs}
use Rattle.sixteen.proofs.LaneLaws.{Filled}
use Rattle.sixteen.proofs.lanes.words.Given as goal

abbrev pub invariant-loop-k : goal.invariant-loop-k
invariant-loop-k l = Filled l.w 32 l.k (WordIs l.s l.at)
