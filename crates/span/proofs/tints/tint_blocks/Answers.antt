-- `span::tints::tint_blocks` meets its contract: a clear colour leaves what is there. Assumes nothing.
use mathlib.Core.Path.{sym, ◌∙◌}
use Rattle.span.proofs.TintLaws.{clear-tint}
use Rattle.span.proofs.tints.tint_blocks.Goals as goal

pub returns-then-a-eq0 : goal.returns-then-a-eq0
returns-then-a-eq0 c = clear-tint _ _ c.requires (sym c.byte3-a.ensures ∙ c.if-a-eq0.true)
