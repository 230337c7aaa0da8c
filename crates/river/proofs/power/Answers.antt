-- `river::power` meets its contract: a power below 2 ^ 10 is its own remainder. Assumes nothing.
use mathlib.Core.Path.{◌≡◌, ap, ◌∙◌}
use Prim.Native.Nat.{ℕ, ◌*◌, ◌%◌, ◌^◌, ◌<◌, ◌≤◌}
use native.Mathlib.Nat.{mod-eq_of_lt}
use native.Mathlib.Omega.{arith}
use lib.Pow.{pow-lt, pow_mono}
use Rattle.lists.proofs.Bits.{one_bit_lem}
use Rattle.river.proofs.power.Goals as goal

power-is : (k : ℕ) → k < 10 → (1 * 2 ^ k) % 2 ^ 32 % 1024 ≡ 2 ^ k
power-is k h = ap (λ (n : ℕ). n % 1024) (one_bit_lem k (omega arith)) ∙ mod-eq_of_lt (pow-lt h)

pub returns : goal.returns
returns c = let k = c.args.k in let q : 2 ^ k ≤ 2 ^ 9 = pow_mono (let r : k ≤ 9 = omega arith in r) in
    (power-is k (omega arith), omega (arith, power-is k (omega arith)))
