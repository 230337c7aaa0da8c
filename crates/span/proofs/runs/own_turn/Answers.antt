-- `span::runs::own_turn` meets its contract: a block whose own alphas are all 0 or all 255 is what one alpha of 0 or 255
-- makes of it. Assumes nothing.
use borrow.Author.Rules.{rules}
use Rattle.sixteen.proofs.LaneLaws.{alpha-all}
use Rattle.span.proofs.OverParts.{stretch-one, own-clear, own-copied}
use Rattle.span.proofs.runs.own_turn.Goals as goal

pub returns-then-all_opaque : goal.returns-then-all_opaque
returns-then-all_opaque c = search (stretch-one, own-copied, alpha-all, rules)

pub returns-then-all_clear : goal.returns-then-all_clear
returns-then-all_clear c = search (stretch-one, own-clear, alpha-all, rules)
