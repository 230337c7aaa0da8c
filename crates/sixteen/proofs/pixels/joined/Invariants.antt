-- `sixteen::pixels::joined` meets its contract: the loop has filled the first k pixels as the contract says. Assumes
-- nothing.
use Rattle.sixteen.specs.Engine.Lanes.{JoinIs}
use Rattle.sixteen.proofs.LaneLaws.{Filled}
use Rattle.sixteen.proofs.pixels.joined.Given as goal

abbrev pub invariant-loop-k : goal.invariant-loop-k
invariant-loop-k l = Filled l.w 16 l.k (JoinIs l.p l.q)
