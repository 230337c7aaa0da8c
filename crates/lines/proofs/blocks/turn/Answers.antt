-- `lines::blocks::turn` meets its contract: the line is fed from the rest of the block, and printed
-- into the rest of the output. Assumes nothing.
use native.Mathlib.Omega.{arith}
use Rattle.lines.proofs.BlockLaws.{turn_is, turn-bounds, turn-over}
use Rattle.lines.proofs.blocks.turn.Goals as goal

pub overflow_add-result : goal.overflow_add-result
overflow_add-result c =
    let a = c.args in
    let f = c.feed_line-fed.ensures in
    omega (
      arith,
      (turn-bounds a.c _ a.tables.now a.text.now a.block.now a.out.now _ _ _ c.requires.0 c.requires.1 c.requires.3
          f.value f.tables_after f.text_after f.out_after f.count_le_most_printed).1,
    )

pub overflow_add-result-2 : goal.overflow_add-result-2
overflow_add-result-2 c = omega (arith, c.feed_line-fed.ensures.count_le_most_printed, c.requires.1)

pub returns : goal.returns
returns c =
    let a = c.args in
    let f = c.feed_line-fed.ensures in
    record {
      out_after = turn_is a.c _ a.tables.now a.text.now a.block.now a.out.now _ _ _ c.requires.0 c.requires.1 c.requires.3
          f.value f.tables_after f.text_after f.out_after f.count_le_most_printed;
      used_lt_used = turn-bounds a.c _ a.tables.now a.text.now a.block.now a.out.now _ _ _ c.requires.0 c.requires.1
          c.requires.3 f.value f.tables_after f.text_after f.out_after f.count_le_most_printed;
      out_after_2 = turn-over a.c _ a.tables.now a.text.now a.block.now a.out.now _ _ _ c.requires.0 c.requires.1
          c.requires.3 f.value f.tables_after f.text_after f.out_after f.count_le_most_printed;
    }
