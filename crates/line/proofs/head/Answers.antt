-- `line::head` meets its contract: the nine bytes copied are those of `head_of`. Assumes
-- nothing.
use Rattle.line.proofs.LineLaws.{head-is}
use Rattle.line.proofs.head.Goals as goal

pub returns : goal.returns
returns c = head-is c.args.state _ _ _ _ _ _ c.args.reply.now _ c.error_word.ensures c.output_width.ensures
    c.output_height.ensures c.to_be_bytes-e.ensures c.to_be_bytes-w.ensures c.to_be_bytes-h.ensures c.copy.ensures
