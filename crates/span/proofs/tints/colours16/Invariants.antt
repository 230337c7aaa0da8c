-- `span::tints::colours16` meets its contract: the loop has filled the first k colours. Assumes nothing.
use Rattle.span.specs.Engine.Tints.{ColourIs}
use Rattle.sixteen.proofs.LaneLaws.{Filled}
use Rattle.span.proofs.tints.colours16.Given as goal

abbrev pub invariant-loop-k : goal.invariant-loop-k
invariant-loop-k l = Filled l.w 16 l.k (ColourIs l.line l.palette l.j)
