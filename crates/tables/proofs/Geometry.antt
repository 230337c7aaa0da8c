-- The parts of the table buffer fit together without a gap, and a kind's bytes lie in the buffer: over the
-- number of bits. Assumes nothing.
use mathlib.Core.Path.{◌≡◌, refl}
use Prim.Native.Nat.{ℕ, zero, suc, ◌+◌, ◌*◌, ◌≤◌, ◌<◌}
use native.Mathlib.Nat.{mul_comm}
use native.Mathlib.Omega.{arith}
use Rattle.lists.proofs.Digits.{row_room}
use Rattle.tables.specs.Geometry.{tables_len, controller_len, bank_len, font_len, kind_at, kind_len, bank_at}

-- the document's numbers: with one bit, and with two
pub one_bit_lem : (font_len 1 ≡ 768) × (bank_len 1 ≡ 1856) × (controller_len 1 ≡ 3712) × (tables_len 1 ≡ 29696)
unfolding bank_len tables_len
one_bit_lem = (refl, refl, refl, refl)

pub two-bits : (font_len 2 ≡ 1536) × (bank_len 2 ≡ 2624) × (controller_len 2 ≡ 5248) × (tables_len 2 ≡ 41984)
unfolding bank_len tables_len
two-bits = (refl, refl, refl, refl)

module _ (bits : ℕ) where
  -- each part begins where the one before it ends
  pub no_gap : (kind_at 0 ≡ 0) × (kind_at 0 + kind_len bits 0 ≡ kind_at 1) × (kind_at 1 + kind_len bits 1 ≡ kind_at 2)
      × (kind_at 2 + kind_len bits 2 ≡ kind_at 3)
      × (kind_at 3 + kind_len bits 3 ≡ bank_len bits) × (2 * bank_len bits ≡ controller_len bits)
      × (8 * controller_len bits ≡ tables_len bits)
  unfolding kind_at kind_len bank_len tables_len
  no_gap = (refl, refl, refl, refl, refl, refl, refl)

  pub kind-room : (kind : ℕ) → kind_at kind + kind_len bits kind ≤ bank_len bits
  unfolding kind_at kind_len bank_len
  kind-room zero = omega arith
  kind-room (suc zero) = omega arith
  kind-room (suc (suc zero)) = omega arith
  kind-room (suc (suc (suc zero))) = omega arith
  kind-room (suc (suc (suc (suc k)))) = omega arith

  -- a bank is at its longest with two bits
  pub bank-le : bits ≤ 2 → bank_len bits ≤ 2624
  unfolding bank_len
  bank-le h = omega arith

  -- the last of 8 controllers ends with the buffer, and the second bank with its controller
  pub bank-room : (g b kind : ℕ) → g < 8 → b < 2 → bank_at bits g b kind + kind_len bits kind ≤ tables_len bits
  unfolding tables_len
  bank-room g b kind hg hb =
      omega (
        arith,
        kind-room kind,
        row_room g 8 (controller_len bits) hg,
        row_room b 2 (bank_len bits) hb,
        mul_comm (controller_len bits) g,
        mul_comm (bank_len bits) b,
      )
