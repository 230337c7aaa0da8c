-- `order::with_picture` meets its contract: its two ways are the two buffers'. Assumes nothing.
use Rattle.order.proofs.StartLaws.{picture-floats, picture-bytes}
use Rattle.order.proofs.with_picture.Goals as goal

pub returns-then-l : goal.returns-then-l
returns-then-l c = let a = c.args in picture-floats a.pictures a.l a.n _ c.picture_len-len.ensures c.if-l.true

pub returns : goal.returns
returns c = let a = c.args in picture-bytes a.pictures a.l a.n _ c.picture_len-len.ensures c.if-l.false
