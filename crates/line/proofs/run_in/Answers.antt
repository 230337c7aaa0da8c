-- `line::run_in` meets its contract: the reply is printed as it was left. Assumes nothing.
use Rattle.line.specs.Line.{zeros}
use Rattle.line.proofs.LineLaws.{line-is}
use Rattle.line.proofs.run_in.Goals as goal

pub answer-r-requires : goal.answer-r-requires
unfolding zeros
answer-r-requires c = (c.requires.0, c.filled-reply.ensures)

pub returns : goal.returns
returns c =
    let a =
    c.args in
    let r =
    line-is a.state a.tables.now a.text.now _ _ _ _ _ _
    c.answer-r.ensures
    c.print_line-count.ensures.0 c.print_line-count.ensures.1 in
    record { value = r.0; tables_after = r.1.0; out_after = r.1.1.0; count_le_most_printed = r.1.1.1 }
