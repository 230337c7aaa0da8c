-- A remainder, from the number written out by it; a row among rows. Assumes nothing.
use mathlib.Core.Path.{◌≡◌, ap, ◌∙◌}
use Prim.Native.Nat.{ℕ, ◌+◌, ◌*◌, ◌%◌, ◌≤◌, ◌<◌}
use native.Mathlib.Nat.{mul-le-mul, add-mul}
use native.Mathlib.Omega.{arith}
use lib.Arith.{digits_mod}

pub mod-of : (n d q r : ℕ) → n ≡ q * d + r → r < d → n % d ≡ r
mod-of n d q r e h = ap (λ (m : ℕ). m % d) e ∙ digits_mod q h

-- row v of h rows of w ends where the next begins, within them
pub row_room : (v h w : ℕ) → v < h → v * w + w ≤ h * w
row_room v h w lt =
    omega (arith, mul-le-mul {n₁ = v + 1} {m₁ = w} {n₂ = h} {m₂ = w} (omega arith) (omega arith), add-mul v 1 w)
