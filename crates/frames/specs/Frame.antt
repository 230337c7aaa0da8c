-- What fill, a band and a whole frame answer and leave: 01 "Painting", "Answers by number". Assumes nothing.
use Rattle.std.specs.Prelude.{ℕ, ◌*◌, ◌%◌, true, false, List, length, eqb, leb}
use Rattle.lists.specs.Choice.{pick, choose, both, either, or_else}
use Rattle.lists.specs.Tab.{tab}
use Rattle.answers.specs.Answers.{done, tables_length, no_size, output_length, pictures_length, no_band, floats_length}
use Rattle.mix.specs.Pixel.{pixel_len, alpha_place, opaque}
use Rattle.profiles.specs.Profile.{bits_of}
use Rattle.words.specs.Fields.{width_of, height_of, ground_of}
use Rattle.words.specs.Pictures.{pictures_len}
use Rattle.tables.specs.Geometry.{tables_len}
use Rattle.frames.specs.Scene.{Scene}
use Rattle.frames.specs.Band.{band_of, errors_of}

-- ---- refusals: of the bits a glyph pixel has, the words, the band's ends, and the lengths of output, tables, pictures and
-- floats

-- 15: "lower end above upper, or upper above 8"
abbrev pub band_refusal : ℕ → ℕ → ℕ
band_refusal a b = pick (both (leb a b) (leb b 8)) done no_band

-- 12: "active output size still 0"
abbrev pub size_refusal : List ℕ → ℕ
size_refusal w = pick (either (eqb (width_of w) 0) (eqb (height_of w) 0)) no_size done

-- 13: "output not 4·width·height bytes"
abbrev pub frame_len : List ℕ → ℕ
frame_len w = pixel_len * (width_of w * height_of w)

-- of an output so long
abbrev pub output_refusal : List ℕ → ℕ → ℕ
output_refusal w out = pick (eqb out (frame_len w)) done output_length

-- 6: "tables not 29,696 bytes"; 02 K2: "6 compares with the chosen length"
abbrev pub tables_refusal : ℕ → ℕ → ℕ
tables_refusal bits tables = pick (eqb tables (tables_len bits)) done tables_length

-- 14: "pictures of the wrong total length"
abbrev pub pictures_refusal : List ℕ → ℕ → ℕ
pictures_refusal w pictures = pick (eqb pictures (pictures_len false w)) done pictures_length

-- 02 K7: "18 for a float buffer of the wrong total length"
abbrev pub floats_refusal : List ℕ → ℕ → ℕ
floats_refusal w floats = pick (eqb floats (pictures_len true w)) done floats_length

-- "6, 14", and 02 K7, 18: "after 14", of what is lent to read
abbrev pub lent_refusal : ℕ → List ℕ → ℕ → ℕ → ℕ → ℕ
lent_refusal bits w tables pictures floats =
    or_else (tables_refusal bits tables) (or_else (pictures_refusal w pictures) (floats_refusal w floats))

-- fill: 12, 13
unfoldable pub fill_refusal : List ℕ → ℕ → ℕ
fill_refusal w out = or_else (size_refusal w) (output_refusal w out)

-- "Paint 15, 12, 13, 6, 14.", and 18
unfoldable pub paint_refusal : ℕ → List ℕ → ℕ → ℕ → ℕ → ℕ → ℕ → ℕ → ℕ
paint_refusal bits w a b out tables pictures floats =
    or_else (band_refusal a b)
    (or_else (size_refusal w) (or_else (output_refusal w out) (lent_refusal bits w tables pictures floats)))

-- of a scene and an output
abbrev pub refusal_of : Scene → ℕ → ℕ → List ℕ → ℕ
refusal_of s a b out =
    paint_refusal (bits_of s.profile) s.words a b (length out) (length s.tables) (length s.pictures)
    (length s.floats)

-- ---- fill: a refusal leaves "all unchanged"

-- 01 "Painting": "Fill writes the background to every pixel."; "Output alpha is always 255 once filled."
unfoldable pub fill_byte : List ℕ → ℕ → ℕ
fill_byte w i = pick (eqb (i % pixel_len) alpha_place) opaque (ground_of w (i % pixel_len))

-- a whole output of them
unfoldable pub fill_of : List ℕ → List ℕ
fill_of w = tab (frame_len w) (fill_byte w)

-- the output after a fill
unfoldable pub fill_after : List ℕ → List ℕ → List ℕ
fill_after w out = choose (eqb (fill_refusal w (length out)) done) (fill_of w) out

-- ---- a band: a refusal leaves "all unchanged", the error word too

-- the output after a band
unfoldable pub paint_after : Scene → ℕ → ℕ → List ℕ → List ℕ
paint_after s a b out = choose (eqb (refusal_of s a b out) done) (band_of s a b out) out

-- and the error word
unfoldable pub errors_after : Scene → ℕ → ℕ → List ℕ → ℕ → ℕ
errors_after s a b out errors = pick (eqb (refusal_of s a b out) done) (errors_of s a b errors) errors

-- ---- a whole frame

-- "A whole frame is a fill and band 0..8, refused as paint."
unfoldable pub frame_of : Scene → List ℕ
frame_of s = band_of s 0 8 (fill_of s.words)

-- the output after it; its answer and its error word are those of band 0..8
unfoldable pub frame_after : Scene → List ℕ → List ℕ
frame_after s out = choose (eqb (refusal_of s 0 8 out) done) (frame_of s) out
