-- Laws of `byte_of`, and of a buffer of floats read as bytes. Assumes nothing.
use mathlib.Core.Path.{◌≡◌, refl, ap, ◌∙◌}
use mathlib.Core.Bool.{true, false}
use mathlib.Core.List.{List, [], ◌∷◌}
use Prim.Native.Nat.{ℕ, zero, suc, ◌+◌, ◌*◌, ◌≤◌, ◌<◌}
use native.Mathlib.Omega.{arith}
use lib.IntN.{ℤ}
use lib.ListN.{length, get_or, take, drop, length-map, get_or-map}
use lib.Ieee.{Float, nan, inf, fin, up, down}
use Rattle.river.specs.River.{byte_of, bytes_from}
use Rattle.river.proofs.FractionLaws.{fraction-lt, fraction-nearest}

-- ---- one value

pub byte-lt : (x : Float) → byte_of x < 256
unfolding byte_of
byte-lt nan = omega arith
byte-lt (inf true) = omega arith
byte-lt (inf false) = omega arith
byte-lt (fin true m e) = omega arith
byte-lt (fin false m e) = fraction-lt (m * up e) (down e)

-- the byte of a value v from 0 up to 1 is the nearest: 255 * v lies from half below it up to, and not at, half above it
pub nearest : (m : ℕ) (e : ℤ) → m * up e < down e
    → (2 * down e * byte_of (fin false m e) ≤ 2 * 255 * (m * up e) + down e)
    × (2 * 255 * (m * up e) + down e < 2 * down e * byte_of (fin false m e) + 2 * down e)
unfolding byte_of
nearest m e h = fraction-nearest (m * up e) (down e) h

-- ---- a buffer

pub length-bytes : (s : List Float) → length (bytes_from s) ≡ length s
length-bytes s = length-map s byte_of

-- past the end as well: what is not a number gives 0
pub bytes-at : (s : List Float) (i : ℕ) → get_or (bytes_from s) i 0 ≡ byte_of (get_or s i nan)
unfolding byte_of
bytes-at s i = get_or-map byte_of s i nan

-- a part of it
pub bytes_take : (s : List Float) (n : ℕ) → bytes_from (take n s) ≡ take n (bytes_from s)
bytes_take s zero = refl
bytes_take [] (suc n) = refl
bytes_take (x ∷ s) (suc n) = ap (λ (l : List ℕ). byte_of x ∷ l) (bytes_take s n)

pub bytes_drop : (s : List Float) (k : ℕ) → bytes_from (drop k s) ≡ drop k (bytes_from s)
bytes_drop s zero = refl
bytes_drop [] (suc k) = refl
bytes_drop (x ∷ s) (suc k) = bytes_drop s k

pub bytes-part : (s : List Float) (k n : ℕ) → bytes_from (take n (drop k s)) ≡ take n (drop k (bytes_from s))
bytes-part s k n = bytes_take (drop k s) n ∙ ap (take n) (bytes_drop s k)
