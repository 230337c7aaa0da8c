-- A call leads on from what the calls before it left; where the block is used up, they have come to what it
-- leaves.
use Rattle.std.proofs.Common.{arith}
use Rattle.std.proofs.lemmas.Result.{err_from_is_err_and}
use Rattle.lines.proofs.CallLaws.{reaches-first, reaches-next, reaches_end}
use Rattle.lines.proofs.Arranged.{feed_of-arranged}
use Rattle.sheet.proofs.Laws.{called-none, called-next, left-by-last}
use Rattle.sheet.proofs.pass.Goals as goal

pub loop-c-init : goal.loop-c-init
loop-c-init g c =
    let a = c.args in
    record {
      reaches = reaches-first a.going a.tables.now a.text.now a.block.now;
      called = called-none a.block.now a.going a.tables.now a.text.now;
      inside = omega arith;
      arranged = c.requires;
    }

pub loop-c-preserved : goal.loop-c-preserved
loop-c-preserved g c =
    let i = c.loop-c.invariant in
    let s = c.step in
    let p = c.in_ok-c.c in
    let e = c.in_ok-c.ensures in
    record {
      reaches =
          reaches-next i.reaches p.going s.new.tables s.new.text p.used c.loop-c-test.true e.going_value e.tables_after
          e.text_after e.used_value e.used_lt_used.0;
      called =
          called-next i.called c.loop-c-test.true p.going s.new.tables s.new.text p.used e.going_value e.tables_after
          e.text_after e.used_value;
      inside = e.used_lt_used.1;
      arranged = rw e.going_value (feed_of-arranged _ _ _ _ i.arranged);
    }

pub returns-clause-value : goal.returns-clause-value
returns-clause-value g c = (reaches_end c.loop-c.invariant.reaches c.loop-c-test.false).0

pub returns-clause-tables_after : goal.returns-clause-tables_after
returns-clause-tables_after g c = (reaches_end c.loop-c.invariant.reaches c.loop-c-test.false).1.0

pub returns-clause-text_after : goal.returns-clause-text_after
returns-clause-text_after g c = (reaches_end c.loop-c.invariant.reaches c.loop-c-test.false).1.1

pub returns-in_err-c-clause-failed : goal.returns-in_err-c-clause-failed
returns-in_err-c-clause-failed g c =
    let s = c.step in
    let e = c.in_err-c.ensures in
    let p = err_from_is_err_and c.from_residual.result c.from_residual.ensures.1 in
    rw p.1 (
    left-by-last c.loop-c.invariant.called c.loop-c-test.true s.new.tables s.new.text e.tables_after e.text_after
    )
