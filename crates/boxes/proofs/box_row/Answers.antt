-- `box_row` meets its contract: where the row is not whole, twice the weight fits between the
-- sides, so that the two runs lie apart. Assumes nothing.
use mathlib.Core.Path.{sym, ◌∙◌}
use native.Mathlib.Omega.{arith}
use borrow.Author.Rules.{rules}
use Rattle.boxes.proofs.BoxLaws.{whole-across}
use Rattle.boxes.proofs.LineLaws.{line-past, line-whole, line-sides}
use Rattle.boxes.proofs.box_row.Goals as goal

pub returns-then-outline : goal.returns-then-outline
returns-then-outline c = search (line-past, rules)

pub returns-then-is_whole : goal.returns-then-is_whole
returns-then-is_whole c = search (line-whole, rules)

pub overflow_sub-end : goal.overflow_sub-end
overflow_sub-end c = omega (arith, whole-across _ _ _ _ (sym c.is_whole.ensures ∙ c.if-is_whole.false))

pub returns : goal.returns
returns c = search (line-sides, rules)
