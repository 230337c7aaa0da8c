-- What has come of the next line stays the same over a call, and where the block is used up it stands in the
-- text. A turn leads on from what the turns before it left.
use Rattle.std.proofs.Common.{◌≡◌, length, refl, arith}
use Rattle.std.proofs.lemmas.Result.{err_from_is_err_and}
use Rattle.mend.specs.Sizes.{image_kept}
use Rattle.mend.proofs.BlockLaws.{pass-turn, pass-end, turned-next, left-by-last}
use Rattle.mend.proofs.pass.Goals as goal

pub loop-at-init : goal.loop-at-init
loop-at-init g c =
    record {
      opens = refl;
      inside = omega arith;
      turned = λ u h. h;
    }

pub loop-at-preserved : goal.loop-at-preserved
loop-at-preserved g c =
    let l = c.loop-at in
    let f = c.feed-step in
    let r =
    pass-turn c.args.block.now l.text f.new.text _ l.held l.at f.result c.loop-at-test.true l.invariant.opens
    f.ensures.answered f.ensures.text in
    record {
      opens = r.0;
      inside = r.1;
      turned =
          turned-next c.args.block.now l.text f.new.text l.at l.held f.result f.ensures.answered f.ensures.text _ _
          l.invariant.turned;
    }

pub returns-clause-held : goal.returns-clause-held
returns-clause-held g c =
    let l = c.loop-at in
    let long : length l.text ≡ image_kept = omega arith in
    pass-end c.args.block.now l.text _ l.held l.at long c.loop-at-test.false l.invariant.opens

pub returns-in_err-write_all-clause-failed : goal.returns-in_err-write_all-clause-failed
returns-in_err-write_all-clause-failed g c =
    let l = c.loop-at in
    let f = c.feed-step in
    let p = err_from_is_err_and c.from_residual.result c.from_residual.ensures.1 in
    rw p.1 (
    left-by-last c.args.block.now l.text f.new.text l.at l.held f.result f.ensures.answered f.ensures.text _ _
    l.invariant.turned
    )
