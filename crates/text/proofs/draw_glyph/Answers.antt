-- `draw_glyph` meets its contract: a blank row leaves the line, and before each turn the columns of the values up to this
-- one are drawn. Assumes nothing.
use Rattle.text.proofs.LineLaws.{glyph-blank, glyph-none, glyph-more, glyph-all}
use borrow.Author.Rules.{rules}
use Rattle.text.proofs.draw_glyph.Goals as goal

pub returns-then-row-eq0 : goal.returns-then-row-eq0
returns-then-row-eq0 c = search (glyph-blank, rules)

pub loop-value-init : goal.loop-value-init
loop-value-init c = search (glyph-none, rules)

pub loop-value-preserved : goal.loop-value-preserved
loop-value-preserved c = search (glyph-more, rules)

pub returns : goal.returns
returns c = search (glyph-all, rules)
