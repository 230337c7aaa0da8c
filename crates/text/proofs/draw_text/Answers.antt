-- `draw_text` meets its contract: the words read are the instruction's, a row above or below the
-- text is left as it is, and so is every row of a string number above 7. Assumes nothing.
use borrow.Author.Rules.{rules}
use Rattle.text.proofs.LineLaws.{text-line-above, text-line-below, text-line-number, text-line}
use Rattle.text.proofs.draw_text.Goals as goal

pub returns-then-v-y : goal.returns-then-v-y
returns-then-v-y c = search (text-line-above, rules)

pub returns-then-y-z : goal.returns-then-y-z
returns-then-y-z c = search (text-line-below, rules)

pub returns-then-n-ge-STRING_COUNT : goal.returns-then-n-ge-STRING_COUNT
returns-then-n-ge-STRING_COUNT c = search (text-line-number, rules)

pub returns : goal.returns
returns c = search (text-line, rules)
