-- `steps::form::parts_of` meets its contract: a line is good where its parts end at its end. Assumes nothing.
use Rattle.steps.proofs.FormLaws.{good_is, bad_is}
use Rattle.steps.proofs.form.parts_of.Goals as goal

pub returns-then-end-b-clause-value : goal.returns-then-end-b-clause-value
returns-then-end-b-clause-value c = good_is _ _ _ c.places_of-parts.ensures.0 c.count_at.ensures.0 c.if-end-b.true

pub returns-clause-value : goal.returns-clause-value
returns-clause-value c = bad_is _ _ _ c.places_of-parts.ensures.0 c.count_at.ensures.0 c.if-end-b.false
