-- `draw_mask` meets its contract: before each turn the bits that are left, drawn over the line,
-- give the whole. The measure is those bits as a number, which a run taken off makes smaller.
-- Assumes nothing.
use native.Mathlib.Omega.{arith}
use borrow.Author.Rules.{rules}
use Rattle.text.proofs.BitLaws.{beside-lt, zeros-le, zeros-carried-le}
use Rattle.text.proofs.LineLaws.{mask_done, mask-turn}
use Rattle.text.proofs.draw_mask.Goals as goal

pub overflow_sub-high : goal.overflow_sub-high
overflow_sub-high c = zeros-carried-le c.loop-rest.rest c.loop-rest-test.true c.loop-rest.invariant.0

pub overflow_sub-low : goal.overflow_sub-low
overflow_sub-low c = zeros-le c.loop-rest.rest c.loop-rest-test.true c.loop-rest.invariant.0

pub loop-rest-smaller : goal.loop-rest-smaller
loop-rest-smaller c = search (beside-lt, rules)

pub loop-rest-preserved : goal.loop-rest-preserved
loop-rest-preserved c = (
  omega (arith, beside-lt c.loop-rest.rest c.loop-rest-test.true c.loop-rest.invariant.0),
  search (mask-turn, rules),
)

pub returns : goal.returns
returns c = search (mask_done, rules)
