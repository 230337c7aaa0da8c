-- One layer at one pixel: 01 "Painting", "Graphics layers". A row stands before a column everywhere: v u in
-- the layer, y x on the screen. A pixel's places are its channels and then its alpha. Assumes nothing.
use Rattle.std.specs.Prelude.{ℕ, ◌+◌, ◌-◌, ◌*◌, Bool, List, get_or, take, drop, leb, ltb}
use Rattle.lists.specs.Choice.{pick, choose, both}
use Rattle.mix.specs.Pixel.{pixel_len, alpha_place}
use Rattle.mix.specs.Blend.{blend_of}
use Rattle.mix.specs.Fade.{fade_of}
use Rattle.river.specs.River.{bytes_from}
use Rattle.profiles.specs.Profile.{bits_of}
use Rattle.words.specs.declared.fields.Layer.{Layer}
use Rattle.words.specs.Fields.{layer_of}
use Rattle.words.specs.Pictures.{start_at}
use Rattle.tables.specs.Geometry.{colour_len, kind_len, list_kind, colours_kind, strings_kind, font_kind}
use Rattle.tables.specs.Selection.{active_at}
use Rattle.draw.specs.Drawing.{index_at}
use Rattle.frames.specs.Scene.{Scene}

-- ---- what a layer shows in row v and column u: "Coordinates u, v count from the layer's corner (house)."

-- 01 "Tables": "controller g (which serves layer g)". The table of a kind in the bank that word 3 names
-- for layer n's controller, which is n; where it stands and how long it is goes by the bits a glyph pixel has
unfoldable pub bank_bytes : ℕ → List ℕ → List ℕ → ℕ → ℕ → List ℕ
bank_bytes bits w tables n kind = take (kind_len bits kind) (drop (active_at bits w n kind) tables)

-- 01 "Graphics layers": the colour index after the list
unfoldable pub colour_index : ℕ → List ℕ → List ℕ → ℕ → ℕ → ℕ → ℕ
colour_index bits w tables n v u =
    index_at bits (bank_bytes bits w tables n list_kind) (bank_bytes bits w tables n strings_kind)
    (bank_bytes bits w tables n font_kind) v u

-- "The colour table gives channel 0, 1, 2, alpha for an index (000)."
unfoldable pub graphics_at : ℕ → List ℕ → List ℕ → ℕ → ℕ → ℕ → ℕ → ℕ
graphics_at bits w tables n v u c =
    get_or (bank_bytes bits w tables n colours_kind) (colour_len * colour_index bits w tables n v u + c) 0

-- 02 K7: "Demands 2 and 3 read a float layer by these bytes.": the buffer that layer n's picture stands in, as bytes
unfoldable pub buffer_of : Scene → ℕ → List ℕ
buffer_of s n = choose (layer_of s.words n).floats (bytes_from s.floats) s.pictures

-- 01 "Painting": a picture has "4·width·height bytes in raster order"
unfoldable pub picture_at : Scene → ℕ → ℕ → ℕ → ℕ → ℕ
picture_at s n v u c =
    get_or (buffer_of s n) (start_at s.words n + (pixel_len * (v * (layer_of s.words n).width + u) + c)) 0

-- place c of layer n
unfoldable pub own_at : Scene → ℕ → ℕ → ℕ → ℕ → ℕ
own_at s n v u c =
    pick (layer_of s.words n).graphics (graphics_at (bits_of s.profile) s.words s.tables n v u c) (picture_at s n v u c)

-- the fade's value of a layer at a frame number
abbrev pub faded_of : ℕ → Layer → ℕ
faded_of frame l = fade_of l.value l.target l.period l.start frame

-- "a is the pixel's alpha, or, with global alpha set, the fade value."
unfoldable pub alpha_at : Scene → ℕ → ℕ → ℕ → ℕ
alpha_at s n v u =
    pick (layer_of s.words n).global (faded_of s.frame (layer_of s.words n)) (own_at s n v u alpha_place)

-- ---- a layer over the screen's pixel in row y and column x

-- 01 "Registers", 6+6n and 7+6n: the layer lies at its x, y and is as wide and high as its words say
abbrev pub spans : ℕ → ℕ → ℕ → Bool
spans from size p = both (leb from p) (ltb p (from + size))

-- both across and down
unfoldable pub covers : Layer → ℕ → ℕ → Bool
covers l y x = both (spans l.x l.width x) (spans l.y l.height y)

-- the layer's own column there
abbrev pub across_of : Layer → ℕ → ℕ
across_of l x = x - l.x

-- and its row
abbrev pub down_of : Layer → ℕ → ℕ
down_of l y = y - l.y

-- channel c of the pixel with layer n over what is under it: the blend where the layer covers the
-- pixel, else what is under it
unfoldable pub over_at : Scene → ℕ → ℕ → ℕ → ℕ → ℕ → ℕ
over_at s y x c n under =
    pick (covers (layer_of s.words n) y x)
    (blend_of (alpha_at s n (down_of (layer_of s.words n) y) (across_of (layer_of s.words n) x))
    (own_at s n (down_of (layer_of s.words n) y) (across_of (layer_of s.words n) x) c)
    under)
    under
