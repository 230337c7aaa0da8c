-- `mask_of` meets its contract: a line of one bit a pixel is its own mask, and one of two bits goes by its
-- bytes. Assumes nothing.
use borrow.Author.Rules.{rules}
use Rattle.text.proofs.ValueLaws.{marks-one, marks-two}
use Rattle.text.proofs.mask_of.Goals as goal

pub returns-then-bits-eq1 : goal.returns-then-bits-eq1
returns-then-bits-eq1 c = search (marks-one, rules)

pub returns : goal.returns
returns c = search (marks-two, rules)
