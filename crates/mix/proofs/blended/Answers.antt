-- `mix::blended` meets its contract: no dividend is larger than 65,152, so that it and what the steps add
-- to it fit sixteen bits; up to there the steps are the division. Assumes nothing.
use Rattle.std.proofs.Common.{◌≡◌, ◌^◌, ◌<◌, ◌≤◌, arith}
use Rattle.mix.specs.Blend.{blend_of}
use Rattle.mix.specs.Shifts.{dividend, largest, summed, shifted}
use Rattle.mix.proofs.ShiftLaws.{dividend-le, summed-lt, blend_of-shifted}
use Rattle.mix.proofs.blended.Goals as goal

module _ (c : goal.Start) where
  bound : dividend c.args.a c.args.over c.args.under ≤ largest
  bound = dividend-le c.args.a c.args.over c.args.under (omega arith) (omega arith) (omega arith)

  narrow : summed (dividend c.args.a c.args.over c.args.under) < 2 ^ 16
  narrow = summed-lt (dividend c.args.a c.args.over c.args.under) bound

  divided : shifted (dividend c.args.a c.args.over c.args.under)
      ≡ blend_of c.args.a c.args.over c.args.under
  divided = blend_of-shifted c.args.a c.args.over c.args.under (omega arith) (omega arith) (omega arith)

pub returns : goal.returns
returns c = omega (arith, narrow c, divided c)
