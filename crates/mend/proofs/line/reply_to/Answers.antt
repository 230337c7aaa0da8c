-- `mend::line::reply_to` meets its contract: the answer, and where nothing is refused the image and the list
-- behind it. Assumes nothing.
use native.Mathlib.Omega.{arith}
use mathlib.Core.Path.{sym, ◌∙◌}
use lib.Seq.{length-take-le}
use Rattle.repair.proofs.ImageLaws.{mend_count-le}
use Rattle.mend.proofs.ReplyLaws.{mend_answer-lt, list-long, list-front, reply-refused, reply-done}
use Rattle.mend.proofs.line.reply_to.Goals as goal

pub overflow_cast-answer : goal.overflow_cast-answer
overflow_cast-answer c = omega (
  arith,
  c.spoonwing_mend-answer.ensures.answer,
  mend_answer-lt c.args.image.now,
)

pub returns-then-answer-from : goal.returns-then-answer-from
returns-then-answer-from c = let p = c.put-n.ensures in (
  reply-refused c.args.image.now _ c.spoonwing_mend-answer.ensures.answer _ (rw c.from.ensures at c.if-answer-from.true) p.1,
  omega (arith, p.0),
)

pub overflow_mul-list : goal.overflow_mul-list
overflow_mul-list c = omega (arith, c.spoonwing_mend-answer.ensures.count, mend_count-le c.args.image.now)

pub slice_bounds-list-end : goal.slice_bounds-list-end
slice_bounds-list-end c =
    let e = c.spoonwing_mend-answer.ensures in let image = c.args.image.now in
    omega (arith, e.count, mend_count-le image, list-long image _ _ (omega arith) e.list)

pub slice_bounds-put_changes-end : goal.slice_bounds-put_changes-end
slice_bounds-put_changes-end c =
    let e = c.spoonwing_mend-answer.ensures in let image = c.args.image.now in
    sym (length-take-le _ c.spoonwing_mend-answer.new.list
    (omega (arith, e.count, mend_count-le image, list-long image _ _ (omega arith) e.list)))

pub put_changes-requires : goal.put_changes-requires
put_changes-requires c = let image = c.args.image.now in let e = c.spoonwing_mend-answer.ensures in omega (
  arith,
  e.count,
  mend_count-le image,
  (list-front image _ _ _ e.list e.count).1,
  c.spoonwing_mend-answer.auto.image,
  c.put-from.ensures.0,
  c.put-n.ensures.0,
)

pub returns : goal.returns
returns c =
    let image = c.args.image.now in let e = c.spoonwing_mend-answer.ensures in let p = c.put-n.ensures in
    let q = c.put-from.ensures in let r = c.put_changes.ensures in let f = list-front image _ _ _ e.list e.count in (
      reply-done image _ e.answer _ _ _ _ _ _ (c.if-answer-from.false ∙ c.from.ensures) e.image f.0 (f.1 ∙ e.count) p.1 q.1 r.1,
      omega (arith, r.0, q.0, p.0, f.1, e.count, mend_count-le image),
    )
