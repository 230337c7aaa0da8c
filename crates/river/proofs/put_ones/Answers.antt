-- `river::put_ones` meets its contract: a turn writes one pixel more. Assumes nothing.
use native.Mathlib.Omega.{arith}
use borrow.Author.Rules.{rules}
use Rattle.river.proofs.RowLaws.{front-none, front-one, front_less, front-all}
use Rattle.river.proofs.put_ones.Goals as goal

pub loop-k-init : goal.loop-k-init
loop-k-init c = search (front-none, rules)

pub loop-k-preserved : goal.loop-k-preserved
loop-k-preserved c = let f = c.loop-k.invariant in
    front_less (front-one f (omega (arith, f.long)) c.pixel_at.ensures c.put.ensures) (omega arith) (omega arith)

pub returns : goal.returns
returns c = search (front-all, rules)
