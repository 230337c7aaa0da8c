-- The layers of a band, one over another: 01 "Painting". A pixel's channel and the error word are the
-- same fold with two steps. Assumes nothing.
use Rattle.std.specs.Prelude.{ℕ, ◌-◌, ◌*◌, ◌/◌, ◌%◌, ◌^◌, Bool, not, List, eqb}
use Rattle.std.specs.Int.Bits.{bit_or}
use Rattle.lists.specs.Choice.{pick, choose, both}
use Rattle.lists.specs.Runs.{run}
use Rattle.lists.specs.Tab.{each}
use Rattle.mix.specs.Pixel.{pixel_len, alpha_place}
use Rattle.profiles.specs.Profile.{bits_of}
use Rattle.words.specs.Fields.{shown_of, width_of, layer_of}
use Rattle.words.specs.Order.{here}
use Rattle.tables.specs.Geometry.{list_kind}
use Rattle.draw.specs.Drawing.{ended_of}
use Rattle.frames.specs.Scene.{Scene}
use Rattle.frames.specs.Pixel.{bank_bytes, over_at}

-- ---- the order

-- the step of layer n, where it is an enabled one of depth d
unfoldable pub layer_step : List ℕ → (ℕ → ℕ → ℕ) → ℕ → ℕ → ℕ → ℕ
layer_step w step d n p = pick (here (layer_of w n) d) (step n p) p

-- the steps of the layers of depth d: at most one in words that a start let in
unfoldable pub depth_step : List ℕ → (ℕ → ℕ → ℕ) → ℕ → ℕ → ℕ
depth_step w step d p = run 0 8 (layer_step w step d) p

-- 01 "Painting": "Painting the band a..b (depths from a up to but not b) blends the enabled layers of
-- those depths, in rising depth, over what the buffer holds, so a greater depth lies on top."
unfoldable pub band_by : List ℕ → (ℕ → ℕ → ℕ) → ℕ → ℕ → ℕ → ℕ
band_by w step a b p = run a (b - a) (depth_step w step) p

-- ---- the bytes

-- channel c of the pixel in row y and column x
abbrev pub pixel_at : Scene → ℕ → ℕ → ℕ → ℕ → ℕ → ℕ → ℕ
pixel_at s y x c a b under = band_by s.words (over_at s y x c) a b under

-- byte i of the output, which held p: "Alpha bytes of the output are written by fill only." The
-- output is in raster order, as pictures are.
unfoldable pub band_byte : Scene → ℕ → ℕ → ℕ → ℕ → ℕ
band_byte s a b i p =
    pick (eqb (i % pixel_len) alpha_place) p
    (pixel_at s (i / pixel_len / width_of s.words) (i / pixel_len % width_of s.words) (i % pixel_len) a b p)

-- "With the display off a band changes nothing, the state included, though its refusals stay."
unfoldable pub band_of : Scene → ℕ → ℕ → List ℕ → List ℕ
band_of s a b out = choose (shown_of s.words) (each (band_byte s a b) out) out

-- ---- the error bits

-- 01 "Graphics layers": "No END means that painting the layer sets error bit 4n (000)."
unfoldable pub missing : Scene → ℕ → Bool
missing s n =
    both (layer_of s.words n).graphics
    (not (ended_of (bank_bytes (bits_of s.profile) s.words s.tables n list_kind)))

-- the error word after painting layer n
unfoldable pub mark_at : Scene → ℕ → ℕ → ℕ
mark_at s n errors = pick (missing s n) (bit_or errors (2 ^ (4 * n))) errors

-- and after a band
unfoldable pub errors_of : Scene → ℕ → ℕ → ℕ → ℕ
errors_of s a b errors = pick (shown_of s.words) (band_by s.words (mark_at s) a b errors) errors
