-- `mend::line::put_changes` meets its contract: at the head of turn i the first i changed words stand behind
-- what was there. Assumes nothing.
use native.Mathlib.Omega.{arith}
use mathlib.Core.Path.{refl}
use lib.ListN.{take}
use Rattle.mend.proofs.ReplyLaws.{changes-none, changes-turn, changes-end}
use Rattle.mend.proofs.line.put_changes.Goals as goal

pub loop-i-init : goal.loop-i-init
loop-i-init c = let a = c.args in (omega arith, refl, changes-none a.list.now a.reply.now a.from)

pub loop-i-preserved : goal.loop-i-preserved
loop-i-preserved c = let a = c.args in let l = c.loop-i in let p = c.put_change-n.ensures in (
  omega (arith, p.0, l.invariant.0),
  omega arith,
  changes-turn a.list.now (take a.from a.reply.now) _ _ l.i l.invariant.2 p.1,
)

pub returns : goal.returns
returns c = let a = c.args in let l = c.loop-i in (
  omega (arith, l.invariant.0),
  changes-end a.list.now (take a.from a.reply.now) _ l.i _ l.invariant.2 (omega arith),
)
