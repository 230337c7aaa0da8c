-- The lowest run of bits in a mask, as `draw_mask` takes it off. What each of the 255 masks that have a bit
-- gives is computed. Assumes nothing.
use mathlib.Core.Path.{◌≡◌, refl}
use mathlib.Core.Bool.{Bool, true}
use mathlib.Core.Logic.{⊎_elim}
use Prim.Native.Nat.{ℕ, zero, suc, ◌+◌, ◌-◌, ◌≤◌, ◌<◌}
use native.Mathlib.Nat.{not-suc-le-zero}
use native.Mathlib.Omega.{arith}
use lib.Bits.{bit_and, bit_or}
use lib.Count.{count_trailing_zeros}
use lib.Dec.{leb, ltb, eqb}
use borrow.Author.Tests.{leb-true, ltb-true, eqb-true}
use Rattle.lists.specs.Choice.{both}
use Rattle.lists.proofs.Choice.{split, both_left, both_right}
use Rattle.draw.specs.Text.{glyph_columns, pixel_of}
use Rattle.draw.specs.Engine.Rows.{run_after}

-- ---- a test that passes at each number below n

unfoldable pub every : ℕ → (ℕ → Bool) → Bool
every zero f = true
every (suc n) f = both (f n) (every n f)

pub every-at : (n : ℕ) (f : ℕ → Bool) → every n f ≡ true → (i : ℕ) → i < n → f i ≡ true
unfolding every
every-at zero f e i h = absurd (not-suc-le-zero h)
every-at (suc n) f e i h = ⊎_elim
    (λ (l : i < n). every-at n f (both_right (f n) (every n f) e) i l)
    (λ (g : n ≤ i). let q : i ≡ n = omega arith in rw q (both_left (f n) (every n f) e))
    (split i n)

-- ---- the run

-- the bits with their lowest run carried into the place where it ends; the bits beside that run
abbrev pub carried : ℕ → ℕ
carried bits = bit_or bits (bits - 1) + 1

abbrev pub beside : ℕ → ℕ
beside bits = bit_and bits (carried bits)

-- the columns from which and up to which the run goes
abbrev pub run_from : ℕ → ℕ
run_from bits = glyph_columns - count_trailing_zeros 64 (carried bits)

abbrev pub run_to : ℕ → ℕ
run_to bits = glyph_columns - count_trailing_zeros 64 bits

-- whether column j is 1 in the run, and beside it as in the bits that are left
is_over : ℕ → ℕ → Bool
is_over bits j = eqb (pixel_of 1 bits j) (run_after (run_from bits) (run_to bits) 1 j (pixel_of 1 (beside bits) j))

module _ (bits : ℕ) (some : bits ≡ 0 → ⊥) (byte : bits < 256) where
  each_row : (f : ℕ → Bool) → every 255 (λ i. f (i + 1)) ≡ true → f bits ≡ true
  each_row f e =
      let q : bits - 1 + 1 ≡ bits = omega arith in rw q at (every-at 255 (λ i. f (i + 1)) e (bits - 1) (omega arith))

  pub beside-lt : beside bits < bits
  unfolding every
  beside-lt = ltb-true _ _ (each_row (λ b. ltb (beside b) b) refl)

  pub zeros-le : count_trailing_zeros 64 bits ≤ glyph_columns
  unfolding every count_trailing_zeros
  zeros-le = leb-true _ _ (each_row (λ b. leb (count_trailing_zeros 64 b) glyph_columns) refl)

  pub zeros-carried-le : count_trailing_zeros 64 (carried bits) ≤ glyph_columns
  unfolding every count_trailing_zeros
  zeros-carried-le = leb-true _ _ (each_row (λ b. leb (count_trailing_zeros 64 (carried b)) glyph_columns) refl)

  pub pixel_of-run : (j : ℕ) → j < glyph_columns
      → pixel_of 1 bits j ≡ run_after (run_from bits) (run_to bits) 1 j (pixel_of 1 (beside bits) j)
  unfolding every is_over count_trailing_zeros pixel_of run_after
  pixel_of-run j h =
      eqb-true _ _ (every-at glyph_columns (is_over bits) (each_row (λ b. every glyph_columns (is_over b)) refl) j h)
