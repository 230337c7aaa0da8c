-- Laws of `cut`: what stood before the part stands where it stood, the rest moves up. Assumes nothing.
use mathlib.Core.Path.{◌≡◌, ap, ◌∙◌}
use mathlib.Core.List.{List}
use Prim.Native.Nat.{ℕ, ◌+◌, ◌-◌, ◌≤◌, ◌<◌}
use native.Mathlib.Omega.{arith}
use lib.ListN.{length, get_or, take, drop, length-append, length-drop, get_or-append}
use lib.Seq.{get_or-take, get_or-drop, length-take-le, get_or-append-add}
use Rattle.lists.specs.Cut.{cut}

module _ {A : Type 0} (l : List A) (o n : ℕ) (fits : o + n ≤ length l) where
  length_front : length (take o l) ≡ o
  length_front = length-take-le o l (omega arith)

  pub length_cut : length (cut o n l) + n ≡ length l
  length_cut = simp (length-append, length-drop) (omega (arith, length_front))

module _ (l : List ℕ) (o n : ℕ) (fits : o + n ≤ length l) where
  pub cut_low : (i : ℕ) → i < o → get_or (cut o n l) i 0 ≡ get_or l i 0
  cut_low i h =
      get_or-append (take o l) (drop (o + n) l) 0 i (omega (arith, length_front l o n fits)) ∙ get_or-take o l i 0 h

  pub cut_high : (i : ℕ) → o ≤ i → get_or (cut o n l) i 0 ≡ get_or l (i + n) 0
  cut_high i h =
      let q : i ≡ length (take o l) + (i - o) = omega (arith, length_front l o n fits) in
      let r : o + n + (i - o) ≡ i + n = omega arith in
      ap (λ (z : ℕ). get_or (cut o n l) z 0) q ∙ get_or-append-add (take o l) (drop (o + n) l) (i - o) 0
      ∙ get_or-drop (o + n) l (i - o) 0
      ∙ ap (λ (z : ℕ). get_or l z 0) r
