-- `runs::fill_run` meets its contract: below u the line is as the rule says, which leaves what stands
-- before a and from e on. Assumes nothing.
use mathlib.Core.Path.{refl, sym}
use Prim.Native.Nat.{◌+◌}
use native.Mathlib.Omega.{arith}
use lib.ListN.{length, get_or}
use Rattle.lists.proofs.Tab.{is-each}
use Rattle.lists.proofs.Upto.{upto-none, upto-set, upto_skip}
use Rattle.draw.specs.Engine.Rows.{run_after}
use Rattle.draw.proofs.RunLaws.{run_in, run-left, run-right}
use Rattle.draw.proofs.runs.fill_run.Goals as goal

pub loop-u-init : goal.loop-u-init
loop-u-init c = let a = c.args in
    upto_skip a.a (upto-none a.line.now (λ i. run_after a.a a.e a.colour i (get_or a.line.now i 0)))
    (omega arith)
    (λ i _ h _. run-left a.a a.e a.colour i _ h)

pub loop-u-preserved : goal.loop-u-preserved
loop-u-preserved c = let a = c.args in let l = c.loop-u in
    upto-set l.u a.colour l.invariant refl refl (omega arith)
    (sym (run_in a.a a.e a.colour l.u _ (omega arith) (omega arith)))

pub returns : goal.returns
returns c = let a = c.args in let l = c.loop-u in let all = upto_skip (l.u + length a.line.now) l.invariant (omega arith)
    (λ i h _ b. run-right a.a a.e a.colour i _ (omega arith)) in
    is-each a.line.now l.line (run_after a.a a.e a.colour) all.long
    (λ i b. all.new i (omega arith) b)
