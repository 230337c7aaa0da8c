-- `paint::fill` meets its contract: a filled run of the output's length is `fill_of`. Assumes nothing.
use mathlib.Core.Path.{sym}
use native.Mathlib.Omega.{arith}
use Rattle.frames.proofs.CallerLaws.{fill-long}
use Rattle.paint.proofs.FrameLaws.{filled_is, fill-refused, fill_done}
use Rattle.paint.proofs.fill.Goals as goal

pub returns-in_err-fill_refusal-clause-output : goal.returns-in_err-fill_refusal-clause-output
returns-in_err-fill_refusal-clause-output c = fill-refused _ _ _ c.in_err-fill_refusal.ensures

pub fill-requires : goal.fill-requires
fill-requires c = let e = fill-long _ _ (sym c.in_ok-fill_refusal.ensures) in rw e (omega arith)

pub returns : goal.returns
returns c =
    let r = c.in_ok-fill_refusal.ensures in
    record {
      answer = r;
      output = fill_done _ _ _ r (filled_is _ _ _ (fill-long _ _ (sym r)) (rw c.ground_of.ensures at c.fill.ensures));
    }
