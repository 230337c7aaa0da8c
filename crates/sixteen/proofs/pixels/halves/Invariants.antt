-- `sixteen::pixels::halves` meets its contract: the loop has filled both words of the first k pixels. Assumes nothing.
use Prim.Native.Nat.{◌*◌}
use Rattle.sixteen.specs.Engine.Lanes.{HalfIs}
use Rattle.sixteen.proofs.LaneLaws.{Filled}
use Rattle.sixteen.proofs.pixels.halves.Given as goal

abbrev pub invariant-loop-k : goal.invariant-loop-k
invariant-loop-k l = Filled l.w 32 (2 * l.k) (HalfIs l.p)
