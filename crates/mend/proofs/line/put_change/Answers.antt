-- `mend::line::put_change` meets its contract: its three parts are put one behind the other. Assumes nothing.
use native.Mathlib.Omega.{arith}
use lib.ListN.{take}
use Rattle.mend.proofs.ReplyLaws.{change-put}
use Rattle.mend.proofs.line.put_change.Goals as goal

pub returns : goal.returns
returns c = let a = c.args in let p = c.put-before_old.ensures in let q = c.put-before_new.ensures in let r = c.put.ensures in (
  omega (arith, p.0, q.0, r.0),
  change-put a.list.now (take a.n a.reply.now) _ _ _ _ _ a.at c.to_be_bytes-old.ensures c.to_be_bytes-new.ensures p.1 q.1
      r.1,
)
