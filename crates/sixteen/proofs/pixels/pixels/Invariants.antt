-- `sixteen::pixels::pixels` meets its contract: the loop has filled the first k pixels as the contract says. Assumes
-- nothing.
use Rattle.sixteen.specs.Engine.Lanes.{PixelIs}
use Rattle.sixteen.proofs.LaneLaws.{Filled}
use Rattle.sixteen.proofs.pixels.pixels.Given as goal

abbrev pub invariant-loop-k : goal.invariant-loop-k
invariant-loop-k l = Filled l.w 16 l.k (PixelIs l.s l.at)
