-- No two outcomes meet a function's promise. `Post` is the function's own `ensures`, as the check reads it
-- in `src/lib.rt`: of the arguments i, the answer a or b, and the arguments at exit, e or f. An outcome is
-- every byte of the row that the function writes, or its answer. Assumes nothing.
use mathlib.Core.Path.{◌≡◌, sym, ◌∙◌}
use mathlib.Core.List.{List, [], ◌∷◌}
use Prim.Native.Nat.{ℕ, ◌+◌, ◌*◌, ◌/◌, ◌%◌, ◌<◌}
use native.Mathlib.Omega.{arith}
use lib.ListN.{length, get_or}
use lib.Seq.{ext_get_or}
use Rattle.lists.proofs.Choice.{meet}
use Rattle.sixteen.proofs.PartLaws.{part-unique}
use Rattle.colours.specs.Rows.{word_byte, PaletteOf}
use Rattle.colours.proofs.RowLaws.{pixel_byte-at}
use Rattle.colours.proofs.palette.Reads as palette
use Rattle.colours.proofs.expand.Reads as expand
use Rattle.colours.proofs.fill.Reads as fill
use Rattle.colours.proofs.rows.repeat16.Reads as repeat16
use Rattle.colours.proofs.rows.fill_rest.Reads as FillRest
use Rattle.colours.proofs.rows.solid_pixel.Reads as SolidPixel

-- ---- the row that is written

pub fill-unique : (κs i a b e f : _) → fill.Post κs i a e → fill.Post κs i b f → e.0.now ≡ f.0.now
fill-unique κs i a b e f p q = meet p q

-- the row is the last argument
pub expand-unique : (κs i a b e f : _) → expand.Post κs i a e → expand.Post κs i b f
    → e.1.1.0.now ≡ f.1.1.0.now
expand-unique κs i a b e f p q = meet p q

pub repeat16-unique : (κs i a b e f : _) → repeat16.Post κs i a e → repeat16.Post κs i b f → e.0.now ≡ f.0.now
repeat16-unique κs i a b e f p q = part-unique p q

pub fill-rest-unique : (κs i a b e f : _) → FillRest.Post κs i a e → FillRest.Post κs i b f → e.0.now ≡ f.0.now
fill-rest-unique κs i a b e f p q = part-unique p q

-- ---- the background's pixel, of which each byte is promised and no sum

pub solid-pixel-unique : (κs i a b e f : _) → SolidPixel.Post κs i a e → SolidPixel.Post κs i b f → a ≡ b
solid-pixel-unique κs i a b e f p q = omega (arith, p.p0, q.p0, p.p1, q.p1, p.p2, q.p2, p.p3, q.p3)

-- ---- a palette, of which each byte is promised and no sum

-- a word is known by the bytes of its pixel
word-unique : (v w k : ℕ) → ((r : ℕ) → r < 4 → word_byte v (4 * k + r) ≡ word_byte w (4 * k + r)) → v ≡ w
word-unique v w k same =
    let e2 : v / 65536 ≡ w / 65536 = omega (arith, digit 2 (omega arith), digit 3 (omega arith)) in
    let e1 : v / 256 ≡ w / 256 = omega (arith, digit 1 (omega arith)) in
    omega (arith, digit 0 (omega arith))
  where
    digits : ℕ → List ℕ
    digits c = c % 256 ∷ c / 256 % 256 ∷ c / 65536 % 256 ∷ c / 16777216 ∷ []

    digit : (r : ℕ) → r < 4 → get_or (digits v) r 0 ≡ get_or (digits w) r 0
    digit r h =
        let m : (4 * k + r) % 4 ≡ r = omega arith in
        sym (pixel_byte-at _ _ _ _ (4 * k + r) r m) ∙ same r h ∙ pixel_byte-at _ _ _ _ (4 * k + r) r m

palettes : (p q colours : List ℕ) → length p ≡ 16 → length q ≡ 16 → PaletteOf p colours → PaletteOf q colours → p ≡ q
palettes p q colours lp lq hp hq = ext_get_or 0 p q (meet lp lq) (λ k lt. word-unique (get_or p k 0) (get_or q k 0) k (λ r h.
    let w : (4 * k + r) / 4 ≡ k = omega arith in
    meet (rw w at (hp.bytes (4 * k + r) (omega arith))) (rw w at (hq.bytes (4 * k + r) (omega arith)))))

-- an answer of the type `[u32; 16]` has 16 words
pub palette-unique : (κs i a b e f : _) → length a ≡ 16 → length b ≡ 16 → palette.Post κs i a e → palette.Post κs i b f
    → a ≡ b
palette-unique κs i a b e f la lb p q = palettes a b _ la lb p q
