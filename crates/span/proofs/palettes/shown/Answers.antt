-- `span::palettes::shown` meets its contract. Assumes nothing.
use borrow.Author.Rules.{rules}
use Rattle.span.proofs.TintLaws.{shown-global, shown-none}
use Rattle.span.proofs.palettes.shown.Goals as goal

pub returns-then-global : goal.returns-then-global
returns-then-global c = search (shown-global, rules)

pub returns : goal.returns
returns c = search (shown-none, rules)
