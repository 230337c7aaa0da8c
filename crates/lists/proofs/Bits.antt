-- Laws of exclusive or, of bits set in any order, of a single bit, and of a mask's bits. Assumes nothing.
use mathlib.Core.Path.{◌≡◌, refl, sym, ap, ap₂, ◌∙◌}
use Prim.Native.Nat.{ℕ, zero, suc, ◌+◌, ◌-◌, ◌*◌, ◌/◌, ◌%◌, ◌^◌, ◌≤◌, ◌<◌, min, max}
use native.Mathlib.Nat.{one-mul, zero-mul, div-one, div-add-mod'}
use native.Mathlib.Omega.{arith}
use lib.Arith.{bin_ind}
use lib.Bits.{bit_and, and_step, and_mod, and_shr, and_le_l, and_zero_l, and_zero_r, bit_xor, bit_or, or_step, or_zero_l}
use lib.Bits.{or_comm, or_self, differ, xor_step, xor_zero_l, xor_zero_r, xor_self, xor_add_and, xor_shr, xor_mod}
use lib.Pow.{shl_exact}

-- ---- exclusive or

differ-lt : (x y : ℕ) → x < 2 → y < 2 → differ x y < 2
differ-lt zero y p q = q
differ-lt (suc zero) zero p q = p
differ-lt (suc zero) (suc zero) p q = omega arith
differ-lt (suc zero) (suc (suc y)) p q = omega arith
differ-lt (suc (suc x)) y p q = omega arith

-- of three digits
differ-assoc : (x y z : ℕ) → x < 2 → y < 2 → z < 2 → differ (differ x y) z ≡ differ x (differ y z)
differ-assoc zero y z p q r = refl
differ-assoc (suc zero) zero z p q r = refl
differ-assoc (suc zero) (suc zero) zero p q r = refl
differ-assoc (suc zero) (suc zero) (suc zero) p q r = refl
differ-assoc (suc zero) (suc zero) (suc (suc z)) p q r = omega arith
differ-assoc (suc zero) (suc (suc y)) z p q r = omega arith
differ-assoc (suc (suc x)) y z p q r = omega arith

xor-half : (a b : ℕ) → bit_xor a b / 2 ≡ bit_xor (a / 2) (b / 2)
xor-half a b = xor_shr a b 1

xor-odd : (a b : ℕ) → bit_xor a b % 2 ≡ differ (a % 2) (b % 2)
xor-odd a b =
    go (bit_xor a b) (bit_xor (a / 2) (b / 2)) (differ (a % 2) (b % 2)) (xor_step a b)
    (differ-lt (a % 2) (b % 2) (omega arith) (omega arith))
  where
    go : (x y d : ℕ) → x ≡ y * 2 + d → d < 2 → x % 2 ≡ d
    go x y d e h = omega arith

pub xor_assoc : (a b c : ℕ) → bit_xor (bit_xor a b) c ≡ bit_xor a (bit_xor b c)
xor_assoc =
    bin_ind (λ (a : ℕ). (b c : ℕ) → bit_xor (bit_xor a b) c ≡ bit_xor a (bit_xor b c))
    (λ b c. ap (λ (z : ℕ). bit_xor z c) (xor_zero_l b) ∙ sym (xor_zero_l (bit_xor b c)))
    (λ a ih b c. xor_step (bit_xor a b) c
    ∙ ap₂ (λ (x y : ℕ). x * 2 + y)
    (ap (λ (z : ℕ). bit_xor z (c / 2)) (xor-half a b) ∙ ih (b / 2) (c / 2) ∙ sym (ap (bit_xor (a / 2)) (xor-half b c)))
    (ap (λ (z : ℕ). differ z (c % 2)) (xor-odd a b)
    ∙ differ-assoc (a % 2) (b % 2) (c % 2) (omega arith) (omega arith) (omega arith)
    ∙ sym (ap (differ (a % 2)) (xor-odd b c)))
    ∙ sym (xor_step a (bit_xor b c)))

-- the same bits toggled twice
pub xor-twice : (a b : ℕ) → bit_xor (bit_xor a b) b ≡ a
xor-twice a b = xor_assoc a b b ∙ ap (bit_xor a) (xor_self b) ∙ xor_zero_r a

-- ---- bits are set in any order

or-half : (a b : ℕ) → bit_or a b / 2 ≡ bit_or (a / 2) (b / 2)
or-half a b = go (bit_or a b) (bit_or (a / 2) (b / 2)) (or_step a b)
  where
    go : (x y : ℕ) → x ≡ y * 2 + max (a % 2) (b % 2) → x / 2 ≡ y
    go x y e = omega arith

or-odd : (a b : ℕ) → bit_or a b % 2 ≡ max (a % 2) (b % 2)
or-odd a b = go (bit_or a b) (bit_or (a / 2) (b / 2)) (or_step a b)
  where
    go : (x y : ℕ) → x ≡ y * 2 + max (a % 2) (b % 2) → x % 2 ≡ max (a % 2) (b % 2)
    go x y e = omega arith

pub or_swap : (e a b : ℕ) → bit_or (bit_or e a) b ≡ bit_or (bit_or e b) a
or_swap =
    bin_ind (λ (e : ℕ). (a b : ℕ) → bit_or (bit_or e a) b ≡ bit_or (bit_or e b) a)
    (λ a b. ap (λ (z : ℕ). bit_or z b) (or_zero_l a) ∙ or_comm a b ∙ sym (ap (λ (z : ℕ). bit_or z a) (or_zero_l b)))
    (λ e ih a b. or_step (bit_or e a) b
    ∙ ap₂ (λ (x y : ℕ). x * 2 + y)
    (ap (λ (z : ℕ). bit_or z (b / 2)) (or-half e a) ∙ ih (a / 2) (b / 2)
    ∙ sym (ap (λ (z : ℕ). bit_or z (a / 2)) (or-half e b)))
    (ap (λ (z : ℕ). max z (b % 2)) (or-odd e a) ∙ swap (e % 2) (a % 2) (b % 2)
    ∙ sym (ap (λ (z : ℕ). max z (a % 2)) (or-odd e b)))
    ∙ sym (or_step (bit_or e b) a))
  where
    swap : (x y z : ℕ) → max (max x y) z ≡ max (max x z) y
    swap x y z = omega arith

-- and once set stay so
pub or-again : (e a : ℕ) → bit_or (bit_or e a) a ≡ bit_or e a
or-again e a =
    ap (λ (z : ℕ). bit_or z a) (or_comm e a) ∙ or_swap a e a ∙ ap (λ (z : ℕ). bit_or z e) (or_self a) ∙ or_comm a e

-- ---- one bit, set by a shift

pub one_bit_lem : (k : ℕ) → k < 32 → (1 * 2 ^ k) % 2 ^ 32 ≡ 2 ^ k
one_bit_lem k h = shl_exact {a = 1} 1 k 32 (omega arith) (omega arith) ∙ one-mul (2 ^ k)

-- ---- a mask's bits

-- a number without a lower part and without an upper one
pub no_bits : (r A : ℕ) → r % A ≡ 0 → r / A ≡ 0 → r ≡ 0
no_bits r A p q = sym (div-add-mod' r A) ∙ ap₂ (λ (x y : ℕ). x * A + y) q p ∙ rw (zero-mul A) refl

-- of a mask's bits none is among the b from k on
pub masked-field : (k b v M : ℕ) → M / 2 ^ k % 2 ^ b ≡ 0 → bit_and v M / 2 ^ k % 2 ^ b ≡ 0
masked-field k b v M m =
    ap (λ (z : ℕ). z % 2 ^ b) (and_shr v M k) ∙ and_mod (v / 2 ^ k) (M / 2 ^ k) b ∙ ap (bit_and (v / 2 ^ k % 2 ^ b)) m
    ∙ and_zero_r (v / 2 ^ k % 2 ^ b)

-- taken out, they are gone
pub clear-plain : (v M : ℕ) → bit_and (v - bit_and v M) M ≡ 0
clear-plain =
    bin_ind (λ (v : ℕ). (M : ℕ) → bit_and (v - bit_and v M) M ≡ 0)
    (λ M. ap (λ (z : ℕ). bit_and z M) (let q : 0 - bit_and 0 M ≡ 0 = omega arith in q) ∙ and_zero_l M)
    (λ v ih M.
    let d = digits v M (bit_and v M) (bit_and (v / 2) (M / 2)) (and_step v M) (and_le_l (v / 2) (M / 2)) in
    and_step (v - bit_and v M) M
    ∙ ap₂ (λ (x y : ℕ). x * 2 + y) (ap (λ (z : ℕ). bit_and z (M / 2)) d.0 ∙ ih (M / 2)) d.1)
  where
    digits : (v M r q : ℕ) → r ≡ q * 2 + min (v % 2) (M % 2) → q ≤ v / 2
        → ((v - r) / 2 ≡ v / 2 - q) × (min ((v - r) % 2) (M % 2) ≡ 0)
    digits v M r q e h = (omega arith, omega arith)

-- masked once more
and_again : (v M : ℕ) → bit_and v (bit_and v M) ≡ bit_and v M
and_again =
    bin_ind (λ (v : ℕ). (M : ℕ) → bit_and v (bit_and v M) ≡ bit_and v M)
    (λ M. and_zero_l (bit_and 0 M) ∙ sym (and_zero_l M))
    (λ v ih M.
    let d = digits (v % 2) (M % 2) (bit_and v M) (bit_and (v / 2) (M / 2)) (and_step v M) (omega arith) in
    and_step v (bit_and v M)
    ∙ ap₂ (λ (x y : ℕ). x * 2 + y) (ap (bit_and (v / 2)) d.0 ∙ ih (M / 2)) (ap (min (v % 2)) d.1 ∙ d.2)
    ∙ sym (and_step v M))
  where
    digits : (x y r q : ℕ) → r ≡ q * 2 + min x y → x < 2
        → (r / 2 ≡ q) × (r % 2 ≡ min x y) × (min x (min x y) ≡ min x y)
    digits x y r q e h = (omega arith, omega arith, omega arith)

clear_xor : (v M : ℕ) → v - bit_and v M ≡ bit_xor v (bit_and v M)
clear_xor v M = go (bit_xor v (bit_and v M)) (bit_and v M) (xor_add_and v (bit_and v M)) (and_again v M) (and_le_l v M)
  where
    go : (x r : ℕ) → x + bit_and v r * 2 ≡ v + r → bit_and v r ≡ r → r ≤ v → v - r ≡ x
    go x r e q h = omega arith

-- and no others: a field that has none of them stays
pub clear-field : (k b v M : ℕ) → M / 2 ^ k % 2 ^ b ≡ 0 → (v - bit_and v M) / 2 ^ k % 2 ^ b ≡ v / 2 ^ k % 2 ^ b
clear-field k b v M m =
    ap (λ (z : ℕ). z / 2 ^ k % 2 ^ b) (clear_xor v M) ∙ ap (λ (z : ℕ). z % 2 ^ b) (xor_shr v (bit_and v M) k)
    ∙ xor_mod (v / 2 ^ k) (bit_and v M / 2 ^ k) b ∙ ap (bit_xor (v / 2 ^ k % 2 ^ b)) (masked-field k b v M m)
    ∙ xor_zero_r (v / 2 ^ k % 2 ^ b)

-- one at the number's lower end
pub clear-low : (b v M : ℕ) → M / 1 % 2 ^ b ≡ 0 → (v - bit_and v M) % 2 ^ b ≡ v % 2 ^ b
clear-low b v M m = rw (div-one (v - bit_and v M), div-one v) at (clear-field 0 b v M m)
