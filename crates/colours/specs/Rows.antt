-- What a line of colour indexes as pixels and a filled row hold, byte by byte: 01 "Painting" and "Graphics
-- layers". Assumes nothing.
use Rattle.std.specs.Prelude.{ℕ, ◌*◌, ◌/◌, ◌%◌, ◌<◌, ◌≡◌, List, [], ◌∷◌, length, get_or}
use Rattle.lists.specs.Tab.{tab}
use Rattle.mix.specs.Pixel.{pixel_len, opaque}

-- ---- a colour table

-- the colours of a table: 01 "Tables", "colours at 768 (16 of 4)"
abbrev pub colour_count : ℕ
colour_count = 16

-- the bytes of a table
abbrev pub palette_len : ℕ
palette_len = colour_count * pixel_len

-- ---- rows of pixels

-- byte i of a row in which every pixel is this one: "channel 0, 1, 2, alpha"
unfoldable pub pixel_byte : ℕ → ℕ → ℕ → ℕ → ℕ → ℕ
pixel_byte c0 c1 c2 alpha i = get_or (c0 ∷ c1 ∷ c2 ∷ alpha ∷ []) (i % pixel_len) 0

-- 01 "Painting": "Fill writes the background to every pixel." 01 "What the display is made of":
-- "Output alpha is always 255 once filled."
abbrev pub solid_byte : ℕ → ℕ → ℕ → ℕ → ℕ
solid_byte c0 c1 c2 = pixel_byte c0 c1 c2 opaque

-- the same of a pixel in a word, the lowest byte first
abbrev pub word_byte : ℕ → ℕ → ℕ
word_byte c = pixel_byte (c % 256) (c / 256 % 256) (c / 65536 % 256) (c / 16777216)

-- 01 "Graphics layers": "The colour table gives channel 0, 1, 2, alpha for an index". Byte i of a
-- line of indexes as pixels, the table being a word a colour. An index is taken modulo their number,
-- as an instruction's is.
unfoldable pub colour_byte : List ℕ → List ℕ → ℕ → ℕ
colour_byte line palette i = word_byte (get_or palette (get_or line (i / pixel_len) 0 % colour_count) 0) i

-- all of them
abbrev pub colour_row : List ℕ → List ℕ → List ℕ
colour_row line palette = tab (pixel_len * length line) (colour_byte line palette)

-- the words of a palette are the colours of a bank
pub record PaletteOf (palette colours : List ℕ) : Type 0 where
  pub bytes : (i : ℕ) → i < palette_len → word_byte (get_or palette (i / pixel_len) 0) i ≡ get_or colours i 0
