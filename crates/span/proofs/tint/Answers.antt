-- `span::tint` meets its contract: the blocks, and then what is left of the line. Assumes nothing.
use Rattle.span.proofs.TintLaws.{shown-each}
use Rattle.span.proofs.tint.Goals as goal

pub returns : goal.returns
returns c = shown-each c.args.line.now _ _ _ _ c.shown-shown.ensures c.requires c.tint_line-j.ensures
    c.tint_rest.ensures
