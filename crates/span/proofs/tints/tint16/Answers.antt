-- `span::tints::tint16` meets its contract: what is stored are the colours' words, mixed. Assumes nothing.
use borrow.Author.Rules.{rules}
use Rattle.span.proofs.TintLaws.{sixteen-tint}
use Rattle.span.proofs.tints.tint16.Goals as goal

pub returns : goal.returns
returns c = search (sixteen-tint, rules)
