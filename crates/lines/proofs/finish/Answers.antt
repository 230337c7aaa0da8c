-- `lines::finish` meets its contract: a line's answer is shorter than the output. Assumes nothing.
use native.Mathlib.Omega.{arith}
use Rattle.lines.proofs.finish.Goals as goal

pub returns : goal.returns
returns c =
    let e = c.finish_in.ensures in
    record {
      printed = e.value;
      tables = e.tables_after;
      output = e.out_after;
      fits = omega (arith, e.count_le_most_printed);
    }
