-- Where the pictures stand: 01 "Painting", "Pictures: enabled frame layers in rising layer number,
-- each 4·width·height bytes in raster order, without gaps, whatever the band."; 02 K7: "a second lent buffer of f32 numbers,
-- four a pixel, in rising layer number like the other. Byte pictures skip such layers." Assumes nothing.
use Rattle.std.specs.Prelude.{ℕ, ◌*◌, Bool, true, false, not, List}
use Rattle.lists.specs.Choice.{pick, both, agree}
use Rattle.lists.specs.Runs.{sum_of}
use Rattle.lists.specs.Tab.{tab}
use Rattle.mix.specs.Pixel.{pixel_len}
use Rattle.words.specs.declared.fields.Layer.{Layer}
use Rattle.words.specs.declared.pictures.Pictures.{Pictures}
use Rattle.words.specs.Fields.{layer_of}

-- the numbers of a layer's picture in the buffer of floats, where `floats`, or in that of bytes: none but for an enabled frame
-- layer whose buffer it is
unfoldable pub picture_len : Bool → Layer → ℕ
picture_len floats l =
    pick (both l.on (both (not l.graphics) (agree floats l.floats))) (pixel_len * (l.width * l.height)) 0

-- those of layer n
unfoldable pub picture_len_at : Bool → List ℕ → ℕ → ℕ
picture_len_at floats w n = picture_len floats (layer_of w n)

-- where layer n's begin: behind those of lower number
unfoldable pub picture_start : Bool → List ℕ → ℕ → ℕ
picture_start floats w n = sum_of n (picture_len_at floats w)

-- the length of the buffer
unfoldable pub pictures_len : Bool → List ℕ → ℕ
pictures_len floats w = sum_of 8 (picture_len_at floats w)

-- where layer n's begin in its own buffer
unfoldable pub start_at : List ℕ → ℕ → ℕ
start_at w n = picture_start (layer_of w n).floats w n

-- that of all eight layers, and the lengths of both buffers
abbrev pub pictures_of : List ℕ → Pictures
pictures_of w = record { starts = tab 8 (start_at w); bytes = pictures_len false w; floats = pictures_len true w }
