-- `steps::puts` meets its contract: after a refusal nothing is put, and else the bytes put one after another are
-- a run of them. Assumes nothing.
use Rattle.steps.proofs.StepLaws.{run-refused, puts-run}
use Rattle.steps.proofs.puts.Goals as goal

pub returns-then-first-ne-DONE : goal.returns-then-first-ne-DONE
returns-then-first-ne-DONE c = run-refused _ _ c.if-first-ne-DONE.true

pub returns : goal.returns
returns c = let a = c.args in let ran = c.put_run-ran.ensures in puts-run a.first a.tables.now _ a.n a.from a.b.now _
    c.if-first-ne-DONE.false
    c.requires ran.state ran.tables
