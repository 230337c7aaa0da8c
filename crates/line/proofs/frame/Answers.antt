-- `line::frame` meets its contract: after a refusal the reply is one byte; else the frame is
-- painted behind the place of the head, which is written last. Assumes nothing.
use native.Mathlib.Omega.{arith}
use Rattle.line.proofs.LineLaws.{reply-long, frame_refused, frame-stopped, frame-painted, reply-kept}
use Rattle.line.proofs.frame.Goals as goal

pub refuse-requires : goal.refuse-requires
refuse-requires c = reply-long c.requires.1

pub returns-then-t-ne-DONE : goal.returns-then-t-ne-DONE
returns-then-t-ne-DONE c = frame_refused _ _ _ _ _ c.if-t-ne-DONE.true c.refuse.ensures

pub slice_bounds-frame-end-2 : goal.slice_bounds-frame-end-2
slice_bounds-frame-end-2 c = omega (arith, c.lent_len-n.ensures.1, reply-long c.requires.1)

pub frame-f-requires : goal.frame-f-requires
frame-f-requires c = c.requires.0

pub refuse-requires-then-f-ne-DONE : goal.refuse-requires-then-f-ne-DONE
refuse-requires-then-f-ne-DONE c = let n = c.lent_len-n.ensures in let f = c.frame-f in reply-kept c.args.t c.args.tables.now c.args.pictures.now _ c.args.reply.now f.result
    c.if-t-ne-DONE.false n.0 n.1 c.requires.1
    f.ensures.state _ f.ensures.output f.auto.out

pub returns-then-f-ne-DONE : goal.returns-then-f-ne-DONE
returns-then-f-ne-DONE c = let n = c.lent_len-n.ensures in let f = c.frame-f in frame-stopped c.args.t c.args.tables.now c.args.pictures.now _ c.args.reply.now f.result
    c.if-t-ne-DONE.false n.0
    n.1 c.requires.1 f.ensures.state _ _ c.if-f-ne-DONE.true
    c.refuse-then-f-ne-DONE.ensures

pub head-requires : goal.head-requires
head-requires c = let n = c.lent_len-n.ensures in let f = c.frame-f in reply-kept c.args.t c.args.tables.now c.args.pictures.now _ c.args.reply.now f.result
    c.if-t-ne-DONE.false n.0 n.1 c.requires.1
    f.ensures.state _ f.ensures.output f.auto.out

pub returns : goal.returns
returns c = let n = c.lent_len-n.ensures in let f = c.frame-f in frame-painted c.args.t c.args.tables.now c.args.pictures.now _ c.args.reply.now f.result
    c.if-t-ne-DONE.false n.0
    n.1 c.requires.1 f.ensures.state _ f.ensures.output f.auto.out _
    c.if-f-ne-DONE.false c.head.ensures
