-- `steps::form::places_of` meets its contract: each place is where the form has it. Assumes nothing.
use borrow.Author.Rules.{rules}
use Rattle.steps.proofs.FormLaws.{places_is}
use Rattle.steps.proofs.form.places_of.Goals as goal

pub returns : goal.returns
returns c = search (places_is, rules)
