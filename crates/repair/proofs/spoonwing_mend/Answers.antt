-- `repair::spoonwing_mend` meets its contract: each `return` is a case of `mend_answer`. Assumes nothing.
use mathlib.Core.Path.{refl, sym, ◌∙◌}
use Rattle.answers.proofs.Outcomes.{number_of-not_0}
use Rattle.repair.proofs.ImageLaws.{mend-length, mend-refused, mend-done}
use borrow.Author.Rules.{rules}
use Rattle.repair.proofs.spoonwing_mend.Goals as goal

pub returns-then-image-ne-IMAGE_LEN : goal.returns-then-image-ne-IMAGE_LEN
returns-then-image-ne-IMAGE_LEN c =
    let r = mend-length c.args.image.now c.args.list.now c.if-image-ne-IMAGE_LEN.true in
    record { answer = c.number.ensures ∙ r.0; image = r.1.0; list = r.1.1.0; count = r.1.1.1 }

pub returns-in-Err : goal.returns-in-Err
returns-in-Err c =
    let r =
    mend-refused c.args.image.now c.args.list.now _ _ c.if-image-ne-IMAGE_LEN.false c.words_at-old.ensures
    (c.number-in-Err.ensures ∙ c.in-Err.ensures)
    (λ z. number_of-not_0 c.in-Err.refusal (sym c.number-in-Err.ensures ∙ z)) in
    record { answer = r.0; image = r.1.0; list = r.1.1.0; count = r.1.1.1 }

pub returns : goal.returns
returns c =
    let r =
    mend-done c.args.image.now c.args.list.now _ _ c.if-image-ne-IMAGE_LEN.false c.words_at-old.ensures
    c.in_default.ensures _ _ _ _ refl c.mend-new.ensures (search rules)
    c.list_changes-changed.ensures.count c.list_changes-changed.ensures.list c.put_words.ensures in
    record { answer = r.0; image = r.1.0; list = r.1.1.0; count = r.1.1.1 }
