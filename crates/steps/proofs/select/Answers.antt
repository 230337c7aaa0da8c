-- `steps::select` meets its contract: left out after a refusal, else the call. Assumes
-- nothing.
use borrow.Author.Rules.{rules}
use Rattle.steps.proofs.StepLaws.{step_of-refused, select-done}
use Rattle.steps.proofs.select.Goals as goal

pub returns-then-t-ne-DONE : goal.returns-then-t-ne-DONE
returns-then-t-ne-DONE c = λ l. search (step_of-refused, rules)

pub returns : goal.returns
returns c = λ l. search (select-done, rules)
