-- What a blended run holds, byte by byte: 01 "Painting". Assumes nothing.
use Rattle.std.specs.Prelude.{ℕ, ◌+◌, ◌*◌, ◌/◌, ◌%◌, Bool, List, get_or, eqb}
use Rattle.lists.specs.Choice.{pick}
use Rattle.mix.specs.Pixel.{pixel_len, alpha_place}
use Rattle.mix.specs.Blend.{blend_of}

-- 01 "Painting": "a is the pixel's alpha, or, with global alpha set, the fade value". The pixel is
-- the one of byte i of the run.
abbrev pub run_alpha : List ℕ → Bool → ℕ → ℕ → ℕ
run_alpha over global alpha i = pick global alpha (get_or over (pixel_len * (i / pixel_len) + alpha_place) 0)

-- "Alpha bytes of the output are written by fill only." and "Blend of one channel over what is
-- under it": byte i of a run, which held p, with the run `over` blended over it.
unfoldable pub over_byte : List ℕ → Bool → ℕ → ℕ → ℕ → ℕ
over_byte over global alpha i p =
    pick (eqb (i % pixel_len) alpha_place) p (blend_of (run_alpha over global alpha i) (get_or over i 0) p)
