-- What the laws of lines speak of: 02 K3, "For every accepted setting and every line its bytes and error bits are those
-- of the whole frame." Assumes nothing.
use Rattle.std.specs.Prelude.{ℕ, ◌*◌, ◌<◌, ◌≡◌, List, [], ◌∷◌, ◌++◌, Float, length, get_or, take, drop}
use Rattle.words.specs.Fields.{height_of}
use Rattle.frames.specs.Line.{line_len}
use Rattle.display.specs.declared.Display.{Display}
use Rattle.display.specs.Paint.{line_told, line_bytes}

-- ---- line by line into the room of a whole frame

-- a display, and what the room holds
pub record Panel : Type 0 where
  pub state : Display
  pub out : List ℕ

-- its two parts put together
abbrev pub panel : Display → List ℕ → Panel
panel d out = record { state = d; out = out }

-- line y of an output of the words w
abbrev pub row_in : List ℕ → ℕ → List ℕ → List ℕ
row_in w y out = take (line_len w) (drop (y * line_len w) out)

-- the output with other bytes on that line
abbrev pub with_row : List ℕ → ℕ → List ℕ → List ℕ → List ℕ
with_row w y line out = take (y * line_len w) out ++ (line ++ drop (line_len w) (drop (y * line_len w) out))

-- line y painted in its place: that line alone is lent
abbrev pub line_step : List ℕ → List ℕ → List Float → ℕ → Panel → Panel
line_step tables pictures floats y p =
    panel (line_told p.state y tables pictures floats (row_in p.state.active y p.out)).state
    (with_row p.state.active y (line_bytes p.state y tables pictures floats (row_in p.state.active y p.out)) p.out)

-- the lines of a list, one after the other
unfoldable pub painted_lines : List ℕ → List ℕ → List Float → List ℕ → Panel → Panel
painted_lines tables pictures floats [] p = p
painted_lines tables pictures floats (y ∷ ys) p = painted_lines tables pictures floats ys (line_step tables pictures floats y p)

-- ---- lists of line numbers

-- y is one of them
abbrev pub Among : ℕ → List ℕ → Type 0
Among y ys = (i : ℕ) × (i < length ys) × (get_or ys i 0 ≡ y)

-- lines of the screen, in any order, each at least once
pub record AllLines (w ys : List ℕ) : Type 0 where
  pub lines : (y : ℕ) → Among y ys → y < height_of w
  pub all : (y : ℕ) → y < height_of w → Among y ys
