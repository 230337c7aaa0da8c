-- `texts::gather` meets its contract: the bytes up to the line feed are kept, and the line has ended
-- where one is found. Assumes nothing.
use mathlib.Core.Path.{sym}
use lib.Seq.{length-take-le}
use Rattle.texts.proofs.GatherLaws.{gather-ended, gather-open}
use Rattle.texts.proofs.gather.Goals as goal

pub slice_bounds-keep-end : goal.slice_bounds-keep-end
slice_bounds-keep-end c = sym (length-take-le _ c.args.block.now
    c.find-at.ensures.within)

pub returns-then-at-block : goal.returns-then-at-block
returns-then-at-block c =
    let a = c.args in
    let k = c.keep-kept.ensures in
    let r =
    gather-ended a.text.now a.block.now _ a.held _ _
    c.find-at.ensures.value k.0 k.1 k.2 c.if-at-block.true in
    record { value = r.0; text_after = r.1.0; kept_in_bounds = r.1.1 }

pub returns : goal.returns
returns c =
    let a = c.args in
    let k = c.keep-kept.ensures in
    let f = c.find-at.ensures in
    let r =
    gather-open a.text.now a.block.now _ a.held _ _ f.value k.0 k.1 k.2 c.if-at-block.false f.within in
    record { value = r.0; text_after = r.1.0; kept_in_bounds = r.1.1 }
