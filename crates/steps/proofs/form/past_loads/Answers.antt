-- `steps::form::past_loads` meets its contract. The loads that are left from here on end where all
-- of them do; the place stays small, since a load has at most 65,538 bytes. Assumes nothing.
use borrow.Author.Rules.{rules}
use mathlib.Core.Path.{refl}
use native.Mathlib.Numerals.{unary_clauses}
use native.Mathlib.Omega.{arith}
use Rattle.steps.specs.Form.{writes_place}
use Rattle.steps.proofs.FormLaws.{past_loads-turn, past_loads-end}
use Rattle.steps.proofs.form.past_loads.Goals as goal

pub loop-init : goal.loop-init
unfolding writes_place
loop-init c = (omega arith, simp unary_clauses refl)

pub loop-preserved : goal.loop-preserved
loop-preserved c = (omega arith, search (past_loads-turn, rules))

pub returns : goal.returns
returns c = (search (past_loads-end, rules), omega arith)
