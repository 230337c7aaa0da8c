-- Laws of `byte_of_fraction`. Assumes nothing.
use mathlib.Core.Path.{◌≡◌, sym, ◌∙◌}
use mathlib.Core.Logic.{⊎_elim}
use Prim.Native.Nat.{ℕ, ◌+◌, ◌*◌, ◌/◌, ◌%◌, ◌≤◌, ◌<◌}
use native.Mathlib.Nat.{le_trans, le_of_eq, lt_of_lt_of_le, lt_of_le_of_lt, mul_comm, mul-le-mul_right, mod-lt}
use native.Mathlib.Nat.{le_of_mul-le-mul_right, mul-lt-mul_of_pos_right, lt_of_mul-lt-mul_right, div-lt_iff_lt-mul}
use native.Mathlib.Nat.{div-eq_of_lt, mul-div-le, div-add-mod}
use native.Mathlib.Omega.{arith}
use borrow.Author.Tests.{le-leb, lt-leb}
use lib.Ieee.Nearest.{div_same}
use Rattle.lists.proofs.Choice.{split}
use Rattle.river.specs.River.{byte_of_fraction}

-- ---- the two cases

pub from_one : (a c : ℕ) → c ≤ a → byte_of_fraction a c ≡ 255
unfolding byte_of_fraction
from_one a c h = rw (le-leb c a h)

pub below_one : (a c : ℕ) → a < c → byte_of_fraction a c ≡ (2 * 255 * a + c) / (2 * c)
unfolding byte_of_fraction
below_one a c h = rw (lt-leb c a h)

-- below 1 / 510 the nearest is 0
pub tiny : (a c : ℕ) → 510 * a < c → byte_of_fraction a c ≡ 0
tiny a c h = below_one a c (omega arith) ∙ div-eq_of_lt (let q : 2 * 255 * a + c < 2 * c = omega arith in q)

-- ---- the value counts, and not how it is written: a / b = c / d has one byte

pub same-value : (a b c d : ℕ) → 0 < b → 0 < d → a * d ≡ c * b → byte_of_fraction a b ≡ byte_of_fraction c d
same-value a b c d B D e = ⊎_elim
    (λ (l : a < b). below_one a b l
    ∙ div_same (2 * 255 * a + b) (2 * b) (2 * 255 * c + d) (2 * d) (omega arith) (omega arith) cross
    ∙ sym (below_one c d (lt_of_mul-lt-mul_right b (lt_of_le_of_lt (le_of_eq (sym e))
    (lt_of_lt_of_le (mul-lt-mul_of_pos_right l D) (le_of_eq (mul_comm b d)))))))
    (λ (g : b ≤ a). from_one a b g ∙ sym (from_one c d (le_of_mul-le-mul_right
    (le_trans (le_of_eq (mul_comm d b)) (le_trans (mul-le-mul_right d g) (le_of_eq e))) B)))
    (split a b)
  where
    cross : (2 * 255 * a + b) * (2 * d) ≡ (2 * 255 * c + d) * (2 * b)
    cross = omega arith

-- ---- the byte is the nearest: 255 * a / c lies from half below it up to, and not at, half above it

pub fraction-nearest : (a c : ℕ) → a < c
    → (2 * c * byte_of_fraction a c ≤ 2 * 255 * a + c) × (2 * 255 * a + c < 2 * c * byte_of_fraction a c + 2 * c)
fraction-nearest a c h = rw (below_one a c h)
    (let n = 2 * 255 * a + c in
    let l : 2 * c * (n / (2 * c)) ≤ n = mul-div-le n (2 * c) in
    let m : n % (2 * c) < 2 * c = mod-lt n (let p : 0 < 2 * c = omega arith in p) in
    let d : 2 * c * (n / (2 * c)) + n % (2 * c) ≡ n = div-add-mod n (2 * c) in
    (l, omega arith))

pub fraction-lt : (a c : ℕ) → byte_of_fraction a c < 256
fraction-lt a c = ⊎_elim
    (λ (l : a < c). rw (below_one a c l) ((div-lt_iff_lt-mul {k = 2 * c} (omega arith)).1 (omega arith)))
    (λ (g : c ≤ a). rw (from_one a c g) (omega arith))
    (split a c)
