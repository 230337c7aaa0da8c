-- What a plan holds: the layers of a part of a frame in the order of painting, each with what is the same for a
-- whole painting. No definition of the document rests on these. Assumes nothing.
use Rattle.std.specs.Prelude.{ℕ, ◌+◌, ◌-◌, ◌*◌, ◌^◌, ◌<◌, ◌≤◌, min, ◌≡◌, Bool, true, false, not, List, [], ◌∷◌, ◌++◌, length, get_or, set, take, drop, ltb}
use Rattle.std.specs.Int.Bits.{bit_or}
use Rattle.lists.specs.Choice.{pick, choose, both, either}
use Rattle.lists.specs.Steps.{keep, through}
use Rattle.profiles.specs.Profile.{bits_of}
use Rattle.words.specs.declared.fields.Layer.{Layer}
use Rattle.words.specs.Fields.{width_of, layer_of}
use Rattle.words.specs.Order.{order_of, within, band_layers}
use Rattle.words.specs.Pictures.{start_at}
use Rattle.tables.specs.Geometry.{list_kind, colours_kind, strings_kind, font_kind}
use Rattle.tables.specs.Selection.{active_at}
use Rattle.draw.specs.Drawing.{ended_of, list_end}
use Rattle.colours.specs.Rows.{PaletteOf}
use Rattle.plan.specs.declared.Step.{Step}
use Rattle.plan.specs.declared.Plan.{Plan}
use Rattle.plan.specs.declared.Part.{Part}
use Rattle.frames.specs.Scene.{Scene}
use Rattle.frames.specs.Pixel.{bank_bytes, faded_of}

-- n bytes from a place on
abbrev pub part_at : List ℕ → ℕ → ℕ → List ℕ
part_at bytes at n = take n (drop at bytes)

-- where a layer begins on a line of W pixels
abbrev pub left_end : ℕ → Layer → ℕ
left_end W l = min l.x W

-- and how many of its pixels lie there
abbrev pub wide_of : ℕ → Layer → ℕ
wide_of W l = min l.width (W - left_end W l)

-- the step of layer n, where a glyph's pixel has so many bits
pub record Made (bits : ℕ) (w : List ℕ) (frame : ℕ) (tables : List ℕ) (n : ℕ) (t : Step) : Type 0 where
  pub number : t.number ≡ n
  pub layer : t.layer ≡ layer_of w n
  pub left : t.left ≡ left_end (width_of w) (layer_of w n)
  pub wide : t.wide ≡ wide_of (width_of w) (layer_of w n)
  pub alpha : t.alpha ≡ faded_of frame (layer_of w n)
  pub start : t.start ≡ start_at w n
  pub glyph : t.bits ≡ bits
  pub list : t.list ≡ active_at bits w n list_kind
  pub strings : t.strings ≡ active_at bits w n strings_kind
  pub font : t.font ≡ active_at bits w n font_kind
  pub end : (layer_of w n).graphics ≡ true → t.end ≡ list_end (bank_bytes bits w tables n list_kind)
  pub palette : PaletteOf t.palette (bank_bytes bits w tables n colours_kind)

-- what stands past the end of an array of steps
abbrev pub blank_step : Step
blank_step =
    record {
      number = 0;
      layer =
          record {
            on = false;
            graphics = false;
            floats = false;
            depth = 0;
            global = false;
            value = 0;
            x = 0;
            y = 0;
            width = 0;
            height = 0;
            start = 0;
            period = 0;
            target = 0;
          };
      left = 0;
      wide = 0;
      alpha = 0;
      start = 0;
      bits = 0;
      list = 0;
      strings = 0;
      font = 0;
      end = record { found = false; count = 0 };
      palette = [];
    }

-- ---- the layers of a part

-- whether a layer reaches one of so many lines from line `first` on
abbrev pub reaches : ℕ → ℕ → Layer → Bool
reaches first count l = both (ltb l.y (first + count)) (ltb first (l.y + l.height))

-- whether it is one of the part's: of its depths, and on one of its lines
abbrev pub taken : Part → Layer → Bool
taken p l = both (within p.low p.high l) (reaches p.first p.count l)

-- all of those, in the order of painting
unfoldable pub part_layers : List ℕ → Part → List ℕ
part_layers w p = keep (λ n. taken p (layer_of w n)) (order_of w)

-- whether a row of a layer is made before it is laid: drawn, or turned from floats to bytes
abbrev pub is_made : Layer → Bool
is_made l = either l.graphics l.floats

-- the plan of the layers l; it is a drawn one where rows of one of them are made
pub record Planned (bits : ℕ) (w : List ℕ) (frame : ℕ) (tables l : List ℕ) (p : Plan) : Type 0 where
  pub room : length p.steps ≡ 8
  pub count : p.count ≡ length l
  pub made : (j : ℕ) → j < length l → Made bits w frame tables (get_or l j 0) (get_or p.steps j blank_step)
  pub drawn : (j : ℕ) → j < length l → is_made (layer_of w (get_or l j 0)) ≡ true → p.drawn ≡ true

-- ---- the error word

-- with bit 4n set, where layer n is a graphics layer and its list has no END
abbrev pub marked : Bool → Bool → ℕ → ℕ → ℕ
marked graphics ended n errors = pick (both graphics (not ended)) (bit_or errors (2 ^ (4 * n))) errors

-- after layer n, by the words and the tables
unfoldable pub marked_by : ℕ → List ℕ → List ℕ → ℕ → ℕ → ℕ
marked_by bits w tables n errors =
    marked (layer_of w n).graphics (ended_of (bank_bytes bits w tables n list_kind)) n errors

-- after the layers of a band
abbrev pub band_marks : ℕ → List ℕ → List ℕ → ℕ → ℕ → ℕ → ℕ
band_marks bits w tables a b errors = through (marked_by bits w tables) (band_layers w a b) errors

-- ---- how a plan grows

-- the plan r is p with the step t behind it
pub record Pushed (p : Plan) (t : Step) (r : Plan) : Type 0 where
  pub steps : r.steps ≡ set p.steps p.count t
  pub count : r.count ≡ p.count + 1
  pub errors : r.errors ≡ p.errors
  pub drawn : r.drawn ≡ either (is_made t.layer) p.drawn

-- the plan r is p with layer n behind it, where n is a layer of the part, and its bit is set, where it is one of the
-- part's depths
pub record Grown (bits : ℕ) (w : List ℕ) (frame : ℕ) (tables : List ℕ) (part : Part) (n : ℕ) (p r : Plan) : Type 0 where
  pub grown : (l : List ℕ) → Planned bits w frame tables l p
      → Planned bits w frame tables (l ++ choose (taken part (layer_of w n)) (n ∷ []) []) r
  pub marks : r.errors
      ≡ pick (within part.low part.high (layer_of w n)) (marked_by bits w tables n p.errors) p.errors

-- a plan with no layer, and an error word
pub record Empty (word : ℕ) (p : Plan) : Type 0 where
  pub room : length p.steps ≡ 8
  pub none : p.count ≡ 0
  pub errors : p.errors ≡ word

-- ---- in a scene

-- the step is that of its layer there
abbrev pub OfLayer : Scene → Step → Type 0
OfLayer s t = Made (bits_of s.profile) s.words s.frame s.tables t.number t

-- the plan is that of the layers l
abbrev pub OfLayers : Scene → List ℕ → Plan → Type 0
OfLayers s l p = Planned (bits_of s.profile) s.words s.frame s.tables l p

-- the step is that of the first of the layers l
pub record OfFirst (s : Scene) (l : List ℕ) (t : Step) : Type 0 where
  pub some : 0 < length l
  pub number : t.number ≡ get_or l 0 0
  pub layer : OfLayer s t

-- the plan is that of a part
pub record OfPart (s : Scene) (part : Part) (p : Plan) : Type 0 where
  pub order : part.low ≤ part.high
  pub end : part.high ≤ 8
  pub planned : OfLayers s (part_layers s.words part) p
