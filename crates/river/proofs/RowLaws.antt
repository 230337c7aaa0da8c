-- Laws of `Front`, by which a loop over a row is proved. Assumes nothing.
use mathlib.Core.Path.{◌≡◌, refl, sym, ◌∙◌}
use mathlib.Core.Logic.{⊎_elim}
use mathlib.Core.List.{List}
use Prim.Native.Nat.{ℕ, ◌+◌, ◌%◌, ◌≤◌, ◌<◌}
use native.Mathlib.Nat.{not-suc-le-zero}
use native.Mathlib.Omega.{arith}
use lib.ListN.{length, get_or, set, length-set}
use lib.Seq.{get_or-set_same, get_or-set_other, ext_get_or}
use lib.Ieee.{Float, nan}
use Rattle.lists.proofs.Choice.{split}
use Rattle.river.specs.declared.Pixel.{Pixel}
use Rattle.river.specs.River.{byte_of, bytes_from}
use Rattle.river.specs.Engine.Steps.{pixel_at, written, four_written, Front}
use Rattle.river.proofs.RiverLaws.{length-bytes, bytes-at}

pub front-none : (s : List Float) (l : List ℕ) → length l ≡ length s → Front s l 0
front-none s l e =
    record { long = e; most = omega arith; border = omega arith; bytes = λ i h. absurd (not-suc-le-zero h) }

-- what is written may be written again
pub front_less : {s : List Float} {l : List ℕ} {i k : ℕ} → Front s l k → i ≤ k → i % 4 ≡ 0 → Front s l i
front_less f h m =
    record { long = f.long; most = omega (arith, f.most); border = m; bytes = λ j lt. f.bytes j (omega arith) }

-- ---- a pixel more

-- a row of n bytes, those below k being the floats'
record Known (s : List Float) (n : ℕ) (l : List ℕ) (k : ℕ) : Type 0 where
  long : length l ≡ n
  bytes : (i : ℕ) → i < k → get_or l i 0 ≡ byte_of (get_or s i nan)

module _ {s : List Float} where
  -- the next one is stored
  known-set : {n : ℕ} {l : List ℕ} {m : ℕ} (j : ℕ) → Known s n l j → j < n → m ≡ j + 1
      → Known s n (set l j (byte_of (get_or s j nan))) m
  known-set {l = l} j e lt to = record {
    long = length-set l j (byte_of (get_or s j nan)) ∙ e.long;
    bytes = λ i h. ⊎_elim
        (λ (lo : i < j). get_or-set_other l j i _ 0 (λ (q : i ≡ j). omega arith) ∙ e.bytes i lo)
        (λ (ge : j ≤ i). let q : i ≡ j = omega arith in
        rw q (get_or-set_same l j (byte_of (get_or s j nan)) 0 (omega (arith, e.long))))
        (split i j);
  }

  known-pixel : {n : ℕ} {l : List ℕ} {m : ℕ} (i : ℕ) → Known s n l i → i + 4 ≤ n → m ≡ i + 4
      → Known s n (written l i (pixel_at s i)) m
  unfolding written
  known-pixel i e h to =
      known-set (i + 3)
      (known-set (i + 2)
      (known-set (i + 1) (known-set i e (omega arith) refl) (omega arith) (omega arith))
      (omega arith) (omega arith))
      (omega arith) (omega arith)

  -- in the loops' own words
  module _ {l : List ℕ} {i : ℕ} (f : Front s l i) where
    start : Known s (length l) l i
    start = record { long = refl; bytes = f.bytes }

    front_of : {r : List ℕ} {k : ℕ} → Known s (length l) r k → k ≤ length l → k % 4 ≡ 0 → Front s r k
    front_of e h m = record { long = e.long ∙ f.long; most = omega (arith, e.long); border = m; bytes = e.bytes }

    pub front-one : {r : List ℕ} {p : Pixel} → i + 4 ≤ length l → p ≡ pixel_at s i → r ≡ written l i p
        → Front s r (i + 4)
    front-one h e w = front_of (rw (w, e) (known-pixel i start h refl)) h (omega (arith, f.border))

    pub front-four : {r : List ℕ} {p0 p1 p2 p3 : Pixel} → i + 16 ≤ length l → p0 ≡ pixel_at s i
        → p1 ≡ pixel_at s (i + 4) → p2 ≡ pixel_at s (i + 8) → p3 ≡ pixel_at s (i + 12)
        → r ≡ four_written l i p0 p1 p2 p3 → Front s r (i + 16)
    front-four h e0 e1 e2 e3 w =
        front_of
        (rw (w, e0, e1, e2, e3)
        (known-pixel (i + 12)
        (known-pixel (i + 8)
        (known-pixel (i + 4) (known-pixel i start (omega arith) refl) (omega arith) (omega arith))
        (omega arith) (omega arith))
        (omega arith) (omega arith)))
        h (omega (arith, f.border))

-- ---- the whole row

pub front-all : {s : List Float} {l : List ℕ} {k : ℕ} → Front s l k → length l ≤ k → l ≡ bytes_from s
front-all {s} {l} {k} f h =
    ext_get_or 0 l (bytes_from s) (f.long ∙ sym (length-bytes s)) (λ i b. f.bytes i (omega arith) ∙ sym (bytes-at s i))
