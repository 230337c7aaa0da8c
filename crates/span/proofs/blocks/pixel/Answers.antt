-- `span::blocks::pixel` meets its contract: three stores, and the alpha byte passed over. Assumes
-- nothing.
use borrow.Author.Rules.{rules}
use Rattle.span.proofs.OverParts.{pixel-part}
use Rattle.span.proofs.blocks.pixel.Goals as goal

pub returns : goal.returns
returns c = search (pixel-part, rules)
