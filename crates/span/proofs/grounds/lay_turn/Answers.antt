-- `span::grounds::lay_turn` meets its contract: a block whose own alphas are all 0 is the pixel under it. Assumes nothing.
use borrow.Author.Rules.{rules}
use Rattle.sixteen.proofs.LaneLaws.{alpha-all}
use Rattle.span.proofs.OverParts.{stretch-one}
use Rattle.span.proofs.GroundLaws.{lay-clear}
use Rattle.span.proofs.grounds.lay_turn.Goals as goal

pub returns-then-all_clear : goal.returns-then-all_clear
returns-then-all_clear c = search (stretch-one, lay-clear, alpha-all, rules)
