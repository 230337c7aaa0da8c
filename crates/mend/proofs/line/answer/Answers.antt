-- `mend::line::answer` meets its contract: a text of another length, or not of digits alone, is bad form; else
-- its bytes are an image. Assumes nothing.
use native.Mathlib.Omega.{arith}
use Rattle.mend.proofs.ReplyLaws.{line-long, line-bad, line-good}
use Rattle.mend.proofs.line.answer.Goals as goal

pub returns-then-text-ne-IMAGE_DIGITS : goal.returns-then-text-ne-IMAGE_DIGITS
returns-then-text-ne-IMAGE_DIGITS c = let p = c.put.ensures in (line-long c.args.text.now _ c.if-text-ne-IMAGE_DIGITS.true p.1, omega (arith, p.0))

pub returns-in_default : goal.returns-in_default
returns-in_default c = let p = c.put-in_default.ensures in (
  line-bad c.args.text.now _ c.if-text-ne-IMAGE_DIGITS.false c.in_default.ensures p.1,
  omega (arith, p.0),
)

pub returns : goal.returns
returns c = let r = c.reply_to.ensures in let e = c.in-Some.ensures in (
  line-good c.args.text.now _ _ c.if-text-ne-IMAGE_DIGITS.false e.0 e.2 r.0,
  r.1,
)
