-- `order::picture_len` meets its contract: a layer that is off, or is graphics, has no picture. Assumes nothing.
use Rattle.lists.proofs.Tests.{tests}
use borrow.Author.Tests.{not-true, not-false}
use Rattle.words.specs.Pictures.{picture_len}
use Rattle.words.proofs.PictureLaws.{agree-self}
use Rattle.order.proofs.picture_len.Goals as goal
use Rattle.order.proofs.picture_len.Goals.{then-not-l-via-then-not-l, then-not-l-via-else-not-l+then-l}

pub returns-then-not-l : goal.returns-then-not-l
unfolding picture_len
returns-then-not-l c =
    elim c.then-not-l.branch [
      | then-not-l-via-then-not-l w ↦ search (tests, not-true c.args.l.on w.if-not-l.true)
      | then-not-l-via-else-not-l+then-l w ↦ search (tests, w.if-l.true, not-false c.args.l.on w.if-not-l.false)
    ]

pub returns : goal.returns
unfolding picture_len
returns c = rw (not-false c.args.l.on c.if-not-l.false, c.if-l.false, agree-self c.args.l.floats)
