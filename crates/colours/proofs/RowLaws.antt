-- Laws of `pixel_byte` and `colour_byte`. Assumes nothing.
use mathlib.Core.Path.{◌≡◌, ap, ◌∙◌}
use mathlib.Core.List.{List, [], ◌∷◌}
use Prim.Native.Nat.{ℕ, zero, suc, ◌+◌, ◌*◌, ◌/◌, ◌%◌, ◌<◌}
use native.Mathlib.Omega.{arith}
use lib.ListN.{get_or}
use Rattle.colours.specs.Rows.{pixel_byte, word_byte, colour_byte, PaletteOf}

-- ---- one pixel over and over

-- what holds at each place of a pixel
pub by_place : (P : ℕ → Type 0) → P 0 → P 1 → P 2 → P 3 → (r : ℕ) → r < 4 → P r
by_place P p0 p1 p2 p3 zero lt = p0
by_place P p0 p1 p2 p3 (suc zero) lt = p1
by_place P p0 p1 p2 p3 (suc (suc zero)) lt = p2
by_place P p0 p1 p2 p3 (suc (suc (suc zero))) lt = p3
by_place P p0 p1 p2 p3 (suc (suc (suc (suc r)))) lt = absurd (let z : ⊥ = omega arith in z)

pub pixel_byte-at : (c0 c1 c2 alpha i r : ℕ) → i % 4 ≡ r
    → pixel_byte c0 c1 c2 alpha i ≡ get_or (c0 ∷ c1 ∷ c2 ∷ alpha ∷ []) r 0
unfolding pixel_byte
pixel_byte-at c0 c1 c2 alpha i r e = ap (λ (n : ℕ). get_or (c0 ∷ c1 ∷ c2 ∷ alpha ∷ []) n 0) e

pub pixel_byte-same : (c0 c1 c2 alpha i j : ℕ) → i % 4 ≡ j % 4 → pixel_byte c0 c1 c2 alpha i ≡ pixel_byte c0 c1 c2 alpha j
unfolding pixel_byte
pixel_byte-same c0 c1 c2 alpha i j e = pixel_byte-at c0 c1 c2 alpha i (j % 4) e

-- ---- a line of indexes

-- with the colours of a bank for palette, an index below 16 gives that colour's four bytes
pub colour_byte-is : (line palette colours : List ℕ) (i : ℕ) → PaletteOf palette colours → get_or line (i / 4) 0 < 16
    → colour_byte line palette i ≡ get_or colours (4 * get_or line (i / 4) 0 + i % 4) 0
unfolding colour_byte
colour_byte-is line palette colours i p h = go (get_or line (i / 4) 0) h
  where
    go : (x : ℕ) → x < 16 → word_byte (get_or palette (x % 16) 0) i ≡ get_or colours (4 * x + i % 4) 0
    go x lt =
        let w : x % 16 ≡ (4 * x + i % 4) / 4 = omega arith in
        let e : i % 4 ≡ (4 * x + i % 4) % 4 = omega arith in
        ap (λ (k : ℕ). word_byte (get_or palette k 0) i) w
        ∙ pixel_byte-same _ _ _ _ i (4 * x + i % 4) e
        ∙ p.bytes (4 * x + i % 4) (omega arith)
