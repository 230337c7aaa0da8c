-- `sixteen::digits::either` meets its contract: with what both have in common, either is the sum.
-- Assumes nothing.
use native.Mathlib.Omega.{arith}
use lib.Bits.{or_add_and, and_le_l, and_le_r}
use Rattle.sixteen.proofs.digits.either.Goals as goal

pub returns : goal.returns
returns c = let a = c.args.a in let b = c.args.b in (omega (arith, or_add_and a b, and_le_r a b), omega (arith, or_add_and a b, and_le_l a b))
