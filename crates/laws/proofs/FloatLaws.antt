-- The floats with a part taken out, as bytes. Assumes nothing.
use mathlib.Core.Path.{◌≡◌, refl, ap, ap₂, ◌∙◌}
use mathlib.Core.List.{List, [], ◌∷◌, ◌++◌}
use Prim.Native.Nat.{ℕ, zero, suc, ◌+◌}
use lib.Ieee.{Float}
use lib.ListN.{take, drop}
use Rattle.lists.specs.Cut.{cut}
use Rattle.river.specs.River.{byte_of, bytes_from}
use Rattle.river.proofs.RiverLaws.{bytes_take, bytes_drop}

bytes-append : (a b : List Float) → bytes_from (a ++ b) ≡ bytes_from a ++ bytes_from b
bytes-append [] b = refl
bytes-append (x ∷ a) b = ap (λ (l : List ℕ). byte_of x ∷ l) (bytes-append a b)

pub bytes_cut : (o n : ℕ) (a : List Float) → bytes_from (cut o n a) ≡ cut o n (bytes_from a)
bytes_cut o n a =
    bytes-append (take o a) (drop (o + n) a) ∙ ap₂ (λ (x y : List ℕ). x ++ y) (bytes_take a o) (bytes_drop a (o + n))

-- of none there is none to take
pub cut-none : (o n : ℕ) → cut {A = Float} o n [] ≡ []
cut-none o n = rw (take_none o, drop-none (o + n))
  where
    take_none : (k : ℕ) → take {A = Float} k [] ≡ []
    take_none zero = refl
    take_none (suc k) = refl

    drop-none : (k : ℕ) → drop {A = Float} k [] ≡ []
    drop-none zero = refl
    drop-none (suc k) = refl
