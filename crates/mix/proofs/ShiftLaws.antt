-- The board's steps are the division by 255, for every dividend of a blend. Assumes nothing.
use Rattle.std.proofs.Common.{◌≡◌, ℕ, ◌/◌, ◌^◌, ◌<◌, ◌≤◌, arith}
use Rattle.mix.specs.Blend.{blend_of}
use Rattle.mix.specs.Shifts.{dividend, largest, summed, shifted}
use Rattle.mix.proofs.Parts.{parts-le}

-- up to the largest dividend the steps are the division
pub shifted-is : (t : ℕ) → t ≤ largest → shifted t ≡ t / 255
shifted-is t h = omega arith

-- and what they add up fits sixteen bits
pub summed-lt : (t : ℕ) → t ≤ largest → summed t < 2 ^ 16
summed-lt t h = omega arith

-- no dividend is larger
pub dividend-le : (a over under : ℕ) → a ≤ 255 → over ≤ 255 → under ≤ 255 → dividend a over under ≤ largest
dividend-le a over under h ho hu = omega (arith, parts-le a 255 over under 255 h ho hu)

-- and one is as large: of 255 at alpha 255, whatever is under it, and at alpha 0 over 255, whatever it is of
pub dividend-largest : (x : ℕ) → (dividend 255 255 x ≡ largest) × (dividend 0 x 255 ≡ largest)
dividend-largest x = (omega arith, omega arith)

-- so every blend is its dividend in the board's steps
pub blend_of-shifted : (a over under : ℕ) → a ≤ 255 → over ≤ 255 → under ≤ 255
    → shifted (dividend a over under) ≡ blend_of a over under
unfolding blend_of
blend_of-shifted a over under h ho hu =
    shifted-is (dividend a over under) (dividend-le a over under h ho hu)
