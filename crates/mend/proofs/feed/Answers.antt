-- `mend::feed` meets its contract: the line is gathered, and answered where it has ended. Assumes nothing.
use native.Mathlib.Omega.{arith}
use mathlib.Core.Path.{sym}
use lib.Seq.{length-take-le}
use Rattle.texts.proofs.GatherLaws.{gathered-as}
use Rattle.mend.specs.Sizes.{image_kept}
use Rattle.mend.proofs.BlockLaws.{feed-ended, feed-open}
use Rattle.mend.proofs.feed.Goals as goal

pub slice_bounds-run_line-end-then-g : goal.slice_bounds-run_line-end-then-g
slice_bounds-run_line-end-then-g c = let k = c.gather-g in sym (length-take-le _ k.new.text (omega (arith, k.ensures.kept_in_bounds.0, k.auto.text)))

pub returns-then-g : goal.returns-then-g
returns-then-g c =
    let g = c.gather-g.ensures in
    let r = c.run_line-count.ensures in
    let gathered = gathered-as image_kept c.args.held c.args.block.now _ _ _ c.requires g.value g.text_after in
    let r =
    feed-ended _ _ _ _ _ gathered g.kept_in_bounds.1 _ _ _ c.if-g.true r.count r.output r.fits in
    record { answered = r.0; text = r.1.0; output = r.1.1.0; fits = r.1.1.1 }

pub returns : goal.returns
returns c =
    let g = c.gather-g.ensures in
    let gathered = gathered-as image_kept c.args.held c.args.block.now _ _ _ c.requires g.value g.text_after in
    let r =
    feed-open _ _ _ _ _ gathered g.kept_in_bounds.1 _ c.if-g.false in
    record { answered = r.0; text = r.1.0; output = r.1.1.0; fits = r.1.1.1 }
