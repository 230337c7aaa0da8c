-- Wrong rules for a value a / c, and for what is not a number: what each answers for one float breaks the contract of
-- `byte_of`, its own `ensures`, as the check reads it in `src/lib.rt`. Assumes nothing.
use mathlib.Core.Path.{◌≡◌, ap, ◌∙◌}
use Prim.Native.Nat.{ℕ, ◌+◌, ◌-◌, ◌*◌, ◌/◌}
use native.Mathlib.Omega.{arith}
use lib.Ieee.{binary32, of_bits}
use Rattle.river.specs.River.{byte_of}
use Rattle.river.proofs.Figures.{half, three_quarters, no_number}
use Rattle.river.proofs.byte_of.Reads as ByteOf

-- no call with the float of the pattern b may answer a
abbrev pub Breaks : ℕ → ℕ → Type 0
Breaks b a = (κs i e : _) → ByteOf.Post κs i a e → i.0 ≡ of_bits binary32 b → ⊥

breaks : (b a v : ℕ) → byte_of (of_bits binary32 b) ≡ v → (a ≡ v → ⊥) → Breaks b a
breaks b a v f ne κs i e p x = ne (p ∙ ap byte_of x ∙ f)

-- rounded down
abbrev truncated : ℕ → ℕ → ℕ
truncated a c = 255 * a / c

pub truncated-breaks : Breaks 0x3f00_0000 (truncated 1 2)
truncated-breaks = breaks _ _ 128 half (λ q. omega arith)

-- halves downward
abbrev downward : ℕ → ℕ → ℕ
downward a c = (2 * 255 * a + c - 1) / (2 * c)

pub downward-breaks : Breaks 0x3f00_0000 (downward 1 2)
downward-breaks = breaks _ _ 128 half (λ q. omega arith)

-- 256 times the value
abbrev by256 : ℕ → ℕ → ℕ
by256 a c = (2 * 256 * a + c) / (2 * c)

pub by256-breaks : Breaks 0x3f40_0000 (by256 3 4)
by256-breaks = breaks _ _ 191 three_quarters (λ q. omega arith)

-- full brightness for what is not a number
pub nan255-breaks : Breaks 0x7fc0_0000 255
nan255-breaks = breaks _ _ 0 no_number.0 (λ q. omega arith)
