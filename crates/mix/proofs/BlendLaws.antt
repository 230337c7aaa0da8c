-- Laws of `blend_of`. Assumes nothing.
use Rattle.std.proofs.Common.{◌≡◌, ℕ, ◌≤◌, min, max, arith}
use Rattle.mix.specs.Blend.{blend_of}
use Rattle.mix.proofs.Parts.{parts-le, parts-ge}

pub blend_of-opaque : (over under : ℕ) → blend_of 255 over under ≡ over
unfolding blend_of
blend_of-opaque over under = omega arith

pub blend_of-clear : (over under : ℕ) → blend_of 0 over under ≡ under
unfolding blend_of
blend_of-clear over under = omega arith

pub blend_of-le : (a over under m : ℕ) → a ≤ 255 → over ≤ m → under ≤ m → blend_of a over under ≤ m
unfolding blend_of
blend_of-le a over under m h ho hu = omega (arith, parts-le a 255 over under m h ho hu)

pub blend_of-ge : (a over under m : ℕ) → a ≤ 255 → m ≤ over → m ≤ under → m ≤ blend_of a over under
unfolding blend_of
blend_of-ge a over under m h ho hu = omega (arith, parts-ge a 255 over under m h ho hu)

pub blend_of-between : (a over under : ℕ) → a ≤ 255
    → (min over under ≤ blend_of a over under) × (blend_of a over under ≤ max over under)
blend_of-between a over under h = (
  blend_of-ge a over under (min over under) h (omega arith) (omega arith),
  blend_of-le a over under (max over under) h (omega arith) (omega arith),
)
