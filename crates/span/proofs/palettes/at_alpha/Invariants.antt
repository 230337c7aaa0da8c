-- `span::palettes::at_alpha` meets its contract: the loop has filled the first k colours. Assumes nothing.
use Rattle.span.specs.Engine.Tints.{AlphaIs}
use Rattle.sixteen.proofs.LaneLaws.{Filled}
use Rattle.span.proofs.palettes.at_alpha.Given as goal

abbrev pub invariant-loop-k : goal.invariant-loop-k
invariant-loop-k l = Filled l.w 16 l.k (AlphaIs l.palette l.alpha)
