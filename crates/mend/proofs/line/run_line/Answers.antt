-- `mend::line::run_line` meets its contract: the reply is printed as it was left. Assumes nothing.
use Rattle.mend.proofs.ReplyLaws.{line-printed}
use Rattle.mend.proofs.line.run_line.Goals as goal

pub returns : goal.returns
returns c =
    let r =
    line-printed c.args.text.now _ _ _ _ _ c.answer-n.ensures.0
    c.answer-n.ensures.1 c.print_line.ensures.0 c.print_line.ensures.1 in
    record { count = r.0; output = r.1.0; fits = r.1.1 }
