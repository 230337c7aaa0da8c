-- `draw_box` meets its contract: the words read are the instruction's, and a row above or below
-- the box is left as it is. Assumes nothing.
use borrow.Author.Rules.{rules}
use Rattle.boxes.proofs.LineLaws.{box-line-above, box-line-below, box-line}
use Rattle.boxes.proofs.draw_box.Goals as goal

pub returns-then-v-y0 : goal.returns-then-v-y0
returns-then-v-y0 c = search (box-line-above, rules)

pub returns-then-y1-v : goal.returns-then-y1-v
returns-then-y1-v c = search (box-line-below, rules)

pub returns : goal.returns
returns c = search (box-line, rules)
