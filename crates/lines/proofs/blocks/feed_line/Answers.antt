-- `lines::blocks::feed_line` meets its contract: the line is gathered, and done where it has ended.
-- Assumes nothing.
use native.Mathlib.Omega.{arith}
use mathlib.Core.Path.{sym}
use lib.Seq.{length-take-le}
use Rattle.texts.proofs.GatherLaws.{gathered-as}
use Rattle.lines.specs.Sizes.{most_kept}
use Rattle.lines.proofs.BlockLaws.{feed-ended, feed-open}
use Rattle.lines.proofs.blocks.feed_line.Goals as goal

pub slice_bounds-run_in-end-then-g : goal.slice_bounds-run_in-end-then-g
slice_bounds-run_in-end-then-g c = let k = c.gather-g in sym (length-take-le _ k.new.text (omega (arith, k.ensures.kept_in_bounds.0, k.auto.text)))

pub returns-then-g : goal.returns-then-g
returns-then-g c =
    let e = c.gather-g.ensures in
    let done = c.run_in-r.ensures in
    let k = gathered-as most_kept c.args.going.held c.args.block.now _ _ _ c.requires.0 e.value e.text_after in
    let r =
    feed-ended c.args.going c.args.tables.now c.args.block.now _ _ _ k _ _ _ _
    c.if-g.true done.value done.tables_after
    done.out_after done.count_le_most_printed in
    record { value = r.0; tables_after = r.1.0; text_after = r.1.1.0; out_after = r.1.1.1.0; count_le_most_printed = r.1.1.1.1 }

pub returns : goal.returns
returns c =
    let e = c.gather-g.ensures in
    let k = gathered-as most_kept c.args.going.held c.args.block.now _ _ _ c.requires.0 e.value e.text_after in
    let r =
    feed-open c.args.going c.args.tables.now c.args.block.now _ _ _ k _ c.if-g.false in
    record { value = r.0; tables_after = r.1.0; text_after = r.1.1.0; out_after = r.1.1.1.0; count_le_most_printed = r.1.1.1.1 }
