-- `river::byte_of` meets its contract: the bits are those of a value between the two ends that has the byte of x, and
-- of them the steps give it. No product reaches 2 ^ 32: 255 * 2 ^ 24, and 2 ^ 15 * 2 ^ 9. Assumes nothing.
use mathlib.Core.Path.{◌≡◌, sym, ap, ◌∙◌, subst}
use Prim.Native.Nat.{ℕ, ◌+◌, ◌*◌, ◌/◌, ◌^◌, ◌≤◌, ◌<◌}
use native.Mathlib.Nat.{mul-le-mul}
use native.Mathlib.Omega.{arith}
use lib.Dec.{T}
use lib.Ieee.{binary32, to_bits}
use Rattle.river.specs.River.{byte_of}
use Rattle.river.specs.Engine.Steps.{at_most}
use Rattle.river.proofs.RiverLaws.{byte-lt}
use Rattle.river.proofs.BitLaws.{Within, within, digits, steps-is}
use Rattle.river.proofs.byte_of.Goals as goal

-- ---- the bits

bits : (c : goal.After-at_most-b)
    → Within c.args.x c.at_most-b.result (to_bits binary32 c.at_most-b.result)
bits c =
    rw (c.at_most-b.ensures ∙ ap at_most c.at_least.ensures)
    (within c.args.x (subst T (sym c.well_formed.0.1) tt))

pub float_to_bits-b : goal.float_to_bits-b
float_to_bits-b c = (bits c).number

-- ---- the steps

pub overflow_sub-b : goal.overflow_sub-b
overflow_sub-b c = omega (arith, (bits c).lower)

pub power-requires : goal.power-requires
power-requires c = omega (arith, (bits c).upper)

module _ (a p : ℕ) (h : p ≤ 512) (k : a < 2 ^ 15) where
  product_le : a * p ≤ 32767 * 512
  product_le = mul-le-mul (let q : a ≤ 32767 = omega arith in q) h

  product_lt : a * p < 2 ^ 32
  product_lt = omega (arith, product_le)

  sum_lt : (n : ℕ) → n ≤ 2 ^ 14 → a * p + n < 2 ^ 32
  sum_lt n q = omega (arith, product_le)

pub overflow_mul-result : goal.overflow_mul-result
overflow_mul-result c = record { fits = product_lt _ _ c.power.ensures.1 (omega arith) }

pub overflow_add-result : goal.overflow_add-result
overflow_add-result c = record { fits = sum_lt _ _ c.power.ensures.1 (omega arith) _ (omega arith) }

byte : (c : goal.After-power)
    → let b = to_bits binary32 c.at_most-b.result in
    (255 * digits b / 2 ^ 17 * c.power.result + 2 ^ 14) / 2 ^ 15 ≡ byte_of c.args.x
byte c =
    let b = to_bits binary32 c.at_most-b.result in
    ap (λ (n : ℕ). (255 * digits b / 2 ^ 17 * n + 2 ^ 14) / 2 ^ 15) c.power.ensures.0
    ∙ sym (steps-is b (bits c.before).lower (bits c.before).upper) ∙ (bits c.before).same

pub overflow_cast-result : goal.overflow_cast-result
overflow_cast-result c = omega (arith, byte c, byte-lt c.args.x)

pub returns : goal.returns
returns c = byte c
