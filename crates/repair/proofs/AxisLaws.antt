-- Step 4 along one axis, on which the screen has S pixels and the layer is a wide at x. Assumes nothing.
use mathlib.Core.Path.{◌≡◌, ◌∙◌}
use Prim.Native.Nat.{ℕ, ◌+◌, ◌-◌, ◌≤◌, ◌<◌, min}
use native.Mathlib.Omega.{arith}
use borrow.Author.Tests.{ltb-true, ltb-false}
use lib.Dec.{ltb}
use Rattle.lists.proofs.Choice.{pick-keeps}
use Rattle.repair.specs.Steps.{place_in, size_in}

module _ (S a : ℕ) where
  size_in-min : size_in S a ≡ min a S
  unfolding size_in
  size_in-min =
      pick-keeps (λ (m : ℕ). m ≡ min a S) (ltb S a) _ _ (λ e. let h = ltb-true S a e in omega arith)
      (λ e. let h = ltb-false S a e in omega arith)

  module _ (x : ℕ) where
    place_in-min : place_in S x a ≡ min x (S - a)
    unfolding place_in
    place_in-min =
        pick-keeps (λ (m : ℕ). m ≡ min x (S - a)) (ltb S a) _ _ (λ e. let h = ltb-true S a e in omega arith)
        (λ e. pick-keeps (λ (m : ℕ). m ≡ min x (S - a)) (ltb S (x + a)) _ _
        (λ f. let h = ltb-false S a e in let k = ltb-true S (x + a) f in omega arith)
        (λ f. let k = ltb-false S (x + a) f in omega arith))

    -- what lies on the screen stays
    pub axis-stays : x + a ≤ S → (place_in S x a ≡ x) × (size_in S a ≡ a)
    axis-stays h = (place_in-min ∙ omega arith, size_in-min ∙ omega arith)

    -- what sticks out and is no larger than the screen comes to end where it ends
    pub axis-ends : a ≤ S → S ≤ x + a → (place_in S x a + a ≡ S) × (size_in S a ≡ a)
    axis-ends h k = (omega (arith, place_in-min), size_in-min ∙ omega arith)

    -- what is larger comes to fill it
    pub axis-fills : S ≤ a → (place_in S x a ≡ 0) × (size_in S a ≡ S)
    axis-fills h = (place_in-min ∙ omega arith, size_in-min ∙ omega arith)

    -- it is moved towards 0, if at all, and no farther than it must: at any place between it sticks out
    pub axis-no-farther : (place_in S x a ≤ x) × ((z : ℕ) → place_in S x a < z → z ≤ x → S < z + size_in S a)
    axis-no-farther = (
      omega (arith, place_in-min),
      λ z lt le. omega (arith, place_in-min, size_in-min),
    )

    -- and it lies on the screen, with some size where it had one
    pub axis-inside : 0 < S → 0 < a → (0 < size_in S a) × (place_in S x a + size_in S a ≤ S)
    axis-inside h k = (omega (arith, size_in-min), omega (arith, place_in-min, size_in-min))

    -- numbers of 12 bits stay so
    pub axis-field : x < 4096 → a < 4096 → (place_in S x a < 4096) × (size_in S a < 4096)
    axis-field p q = (omega (arith, place_in-min), omega (arith, size_in-min))
