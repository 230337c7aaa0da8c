-- `sixteen::lanes::own_alphas` meets its contract: the loop has filled both words of the first k pixels. Assumes
-- nothing.
use Prim.Native.Nat.{◌*◌}
use Rattle.sixteen.specs.Engine.Lanes.{HighIs}
use Rattle.sixteen.proofs.LaneLaws.{Filled}
use Rattle.sixteen.proofs.lanes.own_alphas.Given as goal

abbrev pub invariant-loop-k : goal.invariant-loop-k
invariant-loop-k l = Filled l.w 32 (2 * l.k) (HighIs l.over)
