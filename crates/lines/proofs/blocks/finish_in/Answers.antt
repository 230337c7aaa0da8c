-- `lines::blocks::finish_in` meets its contract: nothing for no byte, else the line. Assumes nothing.
use native.Mathlib.Omega.{arith}
use mathlib.Core.Path.{sym}
use lib.Seq.{length-take-le}
use Rattle.lines.proofs.BlockLaws.{finish-none, finish-some}
use Rattle.lines.proofs.blocks.finish_in.Goals as goal

pub returns-then-n-eq0 : goal.returns-then-n-eq0
returns-then-n-eq0 c =
    let r =
    finish-none c.args.going c.args.tables.now c.args.text.now _ c.requires.0
    (omega (arith, c.min-n.ensures)) _ c.if-n-eq0.true in
    record { value = r.0; tables_after = r.1.0; out_after = r.1.1.0; count_le_most_printed = r.1.1.1 }

pub slice_bounds-run_in-end : goal.slice_bounds-run_in-end
slice_bounds-run_in-end c = sym (length-take-le _ c.args.text.now (omega (arith, c.requires.0, c.min-n.ensures)))

pub returns : goal.returns
returns c =
    let a = c.args in
    let r =
    finish-some a.going a.tables.now a.text.now _ c.requires.0
    (omega (arith, c.min-n.ensures)) _ _ _
    _ c.if-n-eq0.false
    (let f = c.run_in.ensures in (f.value, (f.tables_after, (f.out_after, f.count_le_most_printed)))) in
    record { value = r.0; tables_after = r.1.0; out_after = r.1.1.0; count_le_most_printed = r.1.1.1 }
