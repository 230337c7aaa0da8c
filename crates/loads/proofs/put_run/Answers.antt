-- `loads::put_run` meets its contract: no byte, a refusal whatever the place, all of the run, or as much of it
-- as fits. Assumes nothing.
use native.Mathlib.Omega.{arith}
use mathlib.Core.Path.{refl, sym, ◌∙◌}
use borrow.Author.Tests.{true-eqb, false-eqb}
use lib.Seq.{length-take-le}
use Rattle.answers.proofs.Outcomes.{number_of-not_0}
use Rattle.loads.proofs.LoadLaws.{passes-long, load-empty, load-refused, load-all, load_full}
use Rattle.loads.proofs.put_run.Goals as goal

pub returns-then-is_empty : goal.returns-then-is_empty
returns-then-is_empty c =
    let e = load-empty _ _ _ _ _ _ (true-eqb _ _ c.if-is_empty.ensures) in
    record { loaded = c.nothing.ensures ∙ e.0; tables = e.1 }

pub returns-in-Err : goal.returns-in-Err
returns-in-Err c =
    let e = load-refused _ _ _ _ _ _ (false-eqb _ _ c.if-is_empty.ensures) _ (c.number.ensures ∙ c.in-Err.ensures)
    (λ z. number_of-not_0 _ (sym c.number.ensures ∙ z)) in
    record { loaded = c.nothing-in-Err.ensures ∙ e.0; tables = e.1 }

pub store-requires : goal.store-requires
store-requires c =
    let n = length-take-le c.fitting-fits.result c.args.run.now (omega (arith, c.fitting-fits.ensures.0)) in
    (c.requires, passes-long _ _ _ _ _ (sym c.in_default.ensures), omega (arith, n, c.fitting-fits.ensures.0))

pub returns-then-fits-run : goal.returns-then-fits-run
returns-then-fits-run c =
    let r =
    load-all _ _ _ _ _ _ (false-eqb _ _ c.if-is_empty.ensures) _ _ _ c.in_default.ensures refl c.fitting-fits.ensures.0
    c.store.ensures c.if-fits-run.true in
    record { loaded = r.0; tables = r.1 }

pub returns : goal.returns
returns c =
    let r =
    load_full _ _ _ _ _ _ (false-eqb _ _ c.if-is_empty.ensures) _ _ _ c.in_default.ensures refl c.fitting-fits.ensures.0
    c.store.ensures _ c.if-fits-run.false c.with_full.ensures in
    record { loaded = rw c.number-2.ensures r.0; tables = r.1 }
