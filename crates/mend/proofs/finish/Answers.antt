-- `mend::finish` meets its contract: nothing for no byte, else the line. Assumes nothing.
use native.Mathlib.Omega.{arith}
use mathlib.Core.Path.{sym}
use lib.Seq.{length-take-le}
use Rattle.mend.proofs.BlockLaws.{finish-none, finish-some}
use Rattle.mend.proofs.finish.Goals as goal

pub returns-then-n-eq0 : goal.returns-then-n-eq0
returns-then-n-eq0 c =
    let r =
    finish-none c.args.held _ c.args.text.now c.requires (omega (arith, c.min-n.ensures)) _
    c.if-n-eq0.true in
    record { count = r.0; output = r.1.0; fits = r.1.1 }

pub slice_bounds-run_line-end : goal.slice_bounds-run_line-end
slice_bounds-run_line-end c = sym (length-take-le _ c.args.text.now (omega (arith, c.requires, c.min-n.ensures)))

pub returns : goal.returns
returns c =
    let e = c.run_line.ensures in
    let r =
    finish-some c.args.held _ c.args.text.now c.requires (omega (arith, c.min-n.ensures)) _ _ _
    c.if-n-eq0.false (e.count, (e.output, e.fits)) in
    record { count = r.0; output = r.1.0; fits = r.1.1 }
