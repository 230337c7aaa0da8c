-- `line::answer` meets its contract: a text that is too long or not hexadecimal is bad form;
-- else its bytes fit. Assumes nothing.
use native.Mathlib.Omega.{arith}
use Rattle.line.proofs.LineLaws.{reply-long, text-long, text-bad, text-is}
use Rattle.line.proofs.answer.Goals as goal

pub refuse-requires : goal.refuse-requires
refuse-requires c = reply-long c.requires.1

pub returns-then-text-gt-MOST_DIGITS : goal.returns-then-text-gt-MOST_DIGITS
returns-then-text-gt-MOST_DIGITS c = let a = c.args in text-long a.state a.tables.now a.text.now _ _
    (omega (arith, c.if-text-gt-MOST_DIGITS.true)) c.refuse.ensures

pub refuse-requires-in_default : goal.refuse-requires-in_default
refuse-requires-in_default c = reply-long c.requires.1

pub returns-in_default : goal.returns-in_default
returns-in_default c = let a = c.args in text-bad a.state a.tables.now a.text.now _ _
    (omega (arith, c.if-text-gt-MOST_DIGITS.false)) c.in_default.ensures c.refuse-in_default.ensures

pub returns : goal.returns
returns c = let a = c.args in let e = c.in-Some.ensures in text-is a.state a.tables.now a.text.now _ _ _ _
    (omega (arith, c.if-text-gt-MOST_DIGITS.false)) e.0 e.2 c.work.ensures
