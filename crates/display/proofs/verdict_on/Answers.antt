-- `display::verdict_on` meets its contract: the tests are the definition's. Assumes nothing.
use Rattle.std.proofs.Common.{sym, ◌∙◌, ne_eqb}
use Rattle.std.proofs.lemmas.Result.{err_from_is_err_and}
use Rattle.answers.proofs.Outcomes.{number_of-not_0}
use Rattle.display.proofs.verdict_on.Goals as goal

pub returns-then-not-is_update : goal.returns-then-not-is_update
returns-then-not-is_update c = rw (sym c.is_update.ensures ∙ c.if-not-is_update.true)

pub returns-in_err-refusal_of : goal.returns-in_err-refusal_of
returns-in_err-refusal_of c =
    let p = err_from_is_err_and c.from_residual.result c.from_residual.ensures.1 in
    rw (
      p.1,
      p.2,
      sym c.is_update.ensures ∙ c.if-not-is_update.false,
      ← c.in_err-refusal_of.ensures,
      ne_eqb _ 0 (number_of-not_0 c.in_err-refusal_of.field-0.0),
    )

pub returns : goal.returns
returns c = rw (sym c.is_update.ensures ∙ c.if-not-is_update.false, ← c.in_ok-refusal_of.ensures)
