-- `span::blend_flat` meets its contract: at 0 the rule leaves every byte; else the blocks and the
-- rest are the whole run. Assumes nothing.
use borrow.Author.Rules.{rules}
use Rattle.sixteen.proofs.PartLaws.{front-each}
use Rattle.span.proofs.OverLaws.{each-over_byte-clear}
use Rattle.span.proofs.OverParts.{opaque-each}
use Rattle.span.proofs.blend_flat.Goals as goal

pub returns-then-alpha-eq0 : goal.returns-then-alpha-eq0
returns-then-alpha-eq0 c = search (each-over_byte-clear, rules)

pub returns-then-alpha-eq-OPAQUE : goal.returns-then-alpha-eq-OPAQUE
returns-then-alpha-eq-OPAQUE c = search (opaque-each, rules)

pub returns : goal.returns
returns c = search (front-each, rules)
