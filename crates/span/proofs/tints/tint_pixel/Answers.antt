-- `span::tints::tint_pixel` meets its contract: three stores, and the alpha byte passed over. Assumes nothing.
use borrow.Author.Rules.{rules}
use Rattle.span.proofs.TintLaws.{tint-pixel}
use Rattle.span.proofs.tints.tint_pixel.Goals as goal

pub returns : goal.returns
returns c = search (tint-pixel, rules)
