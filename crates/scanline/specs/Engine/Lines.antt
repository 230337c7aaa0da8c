-- What the workers of a line ask and do, on the way to `Rattle.frames.specs.Band`. A worker asks for room in
-- the buffers that it is lent, and is told of no scene: what it does is said of every scene that lends those
-- buffers and whose layer the step is. No definition of the document rests on these. Assumes nothing.
use Rattle.std.specs.Prelude.{ℕ, ◌+◌, ◌-◌, ◌*◌, ◌/◌, ◌%◌, ◌<◌, ◌≤◌, ◌≡◌, Bool, true, false, List, length, get_or, take, drop, eqb, Float, Option, Some, None}
use Rattle.lists.specs.Choice.{pick, both}
use Rattle.lists.specs.Steps.{through}
use Rattle.lists.specs.Tab.{tab, each}
use Rattle.mix.specs.Pixel.{pixel_len, alpha_place, opaque}
use Rattle.profiles.specs.Profile.{bits_of}
use Rattle.mix.specs.declared.Ground.{Ground}
use Rattle.words.specs.Fields.{width_of}
use Rattle.words.specs.Pictures.{pictures_len}
use Rattle.tables.specs.Geometry.{tables_len, instructions, list_len, strings_len, font_len}
use Rattle.draw.specs.Drawing.{count_of, index_at}
use Rattle.colours.specs.Rows as rows
use Rattle.span.specs.Span.{over_byte}
use Rattle.span.specs.Engine.Tints.{Grounded}
use Rattle.pen.specs.Engine.Spans.{Spanned}
use Rattle.frames.specs.Scene.{Scene}
use Rattle.frames.specs.Pixel.{spans, own_at, over_at}
use Rattle.frames.specs.Band.{pixel_at}
use Rattle.plan.specs.declared.Step.{Step}
use Rattle.plan.specs.declared.Plan.{Plan}
use Rattle.plan.specs.Engine.Plan.{blank_step, is_made, part_at, OfLayer, OfFirst}
use Rattle.scanline.specs.declared.Painting.{Painting}

-- ---- what a worker asks

-- tables, pictures and floats of the right lengths
pub record Lent (s : Scene) : Type 0 where
  pub tables : length s.tables ≡ tables_len (bits_of s.profile)
  pub pictures : length s.pictures ≡ pictures_len false s.words
  pub floats : length s.floats ≡ pictures_len true s.words

-- a pixel of a glyph has one bit or two; the banks that a step draws from lie in the tables, and its list ends where it
-- says
pub record Banked (tables : List ℕ) (t : Step) : Type 0 where
  pub some : 0 < t.bits
  pub few : t.bits ≤ 2
  pub list : t.list + list_len ≤ length tables
  pub strings : t.strings + strings_len ≤ length tables
  pub font : t.font + font_len t.bits ≤ length tables
  pub count : t.end.count ≡ count_of (part_at tables t.list list_len)

-- from `at` on stand the spans of the instructions of a step's list
pub record Extended (tables extents : List ℕ) (at : ℕ) (t : Step) : Type 0 where
  pub room : at + instructions ≤ length extents
  pub spanned : Spanned (part_at tables t.list list_len) t.end.count (part_at extents at instructions)

-- what a graphics layer is drawn from
pub record Drawable (tables extents : List ℕ) (at : ℕ) (t : Step) : Type 0 where
  pub graphics : t.layer.graphics ≡ true
  pub banked : Banked tables t
  pub extended : Extended tables extents at t

-- the part of a line that a step paints lies on it, where the line has so many bytes
abbrev pub OnLine : Step → ℕ → Type 0
OnLine t bytes = pixel_len * t.left + pixel_len * t.wide ≤ bytes

-- it has so many bytes
abbrev pub OnPart : Step → ℕ → Type 0
OnPart t bytes = pixel_len * t.wide ≡ bytes

-- where a picture of a step ends in its buffer
abbrev pub picture_end : Step → ℕ
picture_end t = t.start + pixel_len * (t.layer.width * t.layer.height)

-- the picture of a step, where it has one, lies among the pictures or among the floats
pub record Pictured (pictures : List ℕ) (floats : List Float) (t : Step) : Type 0 where
  pub wide : t.wide ≤ t.layer.width
  pub bytes : t.layer.graphics ≡ false → t.layer.floats ≡ false → picture_end t ≤ length pictures
  pub flows : t.layer.graphics ≡ false → t.layer.floats ≡ true → picture_end t ≤ length floats

-- a step that fits a line of so many bytes
pub record Fit (tables pictures : List ℕ) (floats : List Float) (bytes : ℕ) (t : Step) : Type 0 where
  pub on : OnLine t bytes
  pub banked : t.layer.graphics ≡ true → Banked tables t
  pub pictured : Pictured pictures floats t

-- a plan of such steps, which is a drawn one where rows of one of them are made
pub record AllFit (tables pictures : List ℕ) (floats : List Float) (bytes : ℕ) (p : Plan) : Type 0 where
  pub few : p.count ≤ 8
  pub fit : (j : ℕ) → j < p.count → Fit tables pictures floats bytes (get_or p.steps j blank_step)
  pub drawn : (j : ℕ) → j < p.count → is_made (get_or p.steps j blank_step).layer ≡ true → p.drawn ≡ true

-- room for the colour indexes of a line of so many bytes, and for its pixels
pub record Scratch (bytes : ℕ) (indexes row : List ℕ) : Type 0 where
  pub wide : bytes ≤ pixel_len * length indexes
  pub long : bytes ≤ length row

-- the layer reaches line y
pub record OnRow (t : Step) (y : ℕ) : Type 0 where
  pub top : t.layer.y ≤ y
  pub bottom : y < t.layer.y + t.layer.height

-- where line y of a frame layer begins in its buffer
abbrev pub row_start : Step → ℕ → ℕ
row_start t y = t.start + pixel_len * ((y - t.layer.y) * t.layer.width)

-- line y of a float layer lies among the floats
abbrev pub RowFlows : List Float → Step → ℕ → Type 0
RowFlows floats t y = row_start t y + pixel_len * t.wide ≤ length floats

-- what a line's lowest layer is laid from together with the ground, if it is a graphics layer: a palette of its colours
-- over the background, and room for its colour indexes
pub record FirstDrawn (bytes : ℕ) (indexes tables extents under : List ℕ) (g : Ground) (t : Step) : Type 0 where
  pub room : bytes ≤ pixel_len * length indexes
  pub banked : Banked tables t
  pub extended : Extended tables extents 0 t
  pub grounded : Grounded t.palette t.layer.global t.alpha g.c0 g.c1 g.c2 under

-- the layer takes up the whole of line y, which has so many pixels
unfoldable pub whole_line : Step → ℕ → ℕ → Bool
whole_line t pixels y = both (eqb t.wide pixels) (spans t.layer.y t.layer.height y)

-- ---- bytes

-- so many pixels of row v of a graphics layer: the colour indexes that its banks draw
unfoldable pub drawn_indexes : List ℕ → Step → ℕ → ℕ → List ℕ
drawn_indexes tables t v pixels =
    tab pixels
    (index_at t.bits (part_at tables t.list list_len) (part_at tables t.strings strings_len)
    (part_at tables t.font (font_len t.bits)) v)

-- byte i of line y with layer n over it
unfoldable pub line_byte : Scene → ℕ → ℕ → ℕ → ℕ → ℕ
line_byte s y n i p = pick (eqb (i % pixel_len) alpha_place) p (over_at s y (i / pixel_len) (i % pixel_len) n p)

-- and with the first k of the layers l
unfoldable pub line_to : Scene → ℕ → List ℕ → ℕ → ℕ → ℕ → ℕ
line_to s y l k i p = through (λ n q. line_byte s y n i q) (take k l) p

-- or with the others
unfoldable pub line_from : Scene → ℕ → List ℕ → ℕ → ℕ → ℕ → ℕ
line_from s y l k i p = through (λ n q. line_byte s y n i q) (drop k l) p

-- and with the layers of a band
unfoldable pub band_line : Scene → ℕ → ℕ → ℕ → ℕ → ℕ → ℕ
band_line s a b y i p =
    pick (eqb (i % pixel_len) alpha_place) p (pixel_at s y (i / pixel_len) (i % pixel_len) a b p)

-- byte i of a run as its ground has it: filled where the frame is a fresh one, else as it was
unfoldable pub ground_byte : Ground → Bool → ℕ → ℕ → ℕ
ground_byte g fresh i p = pick fresh (rows.solid_byte g.c0 g.c1 g.c2 i) p

-- the same, of the ground that a fresh frame has and another has not
unfoldable pub under_byte : Option Ground → ℕ → ℕ → ℕ
under_byte None i p = p
under_byte (Some g) i p = ground_byte g true i p

-- ---- what a worker does, in every such scene

-- the scene has these pictures
abbrev pub Shows : List ℕ → Scene → Type 0
Shows pictures s = s.pictures ≡ pictures

-- these tables
abbrev pub Draws : List ℕ → Scene → Type 0
Draws tables s = s.tables ≡ tables

-- these floats
abbrev pub Flows : List Float → Scene → Type 0
Flows floats s = s.floats ≡ floats

-- all of them
pub record Lends (tables pictures : List ℕ) (floats : List Float) (s : Scene) : Type 0 where
  pub draws : Draws tables s
  pub shows : Shows pictures s
  pub flows : Flows floats s

-- those that a painting reads
abbrev pub LentBy : Painting → Scene → Type 0
LentBy p = Lends p.tables.now p.pictures.now p.floats.now

-- a row holds the step's pixels of line y
pub record RowMade (Of : Scene → Type 0) (t : Step) (y : ℕ) (row : List ℕ) : Type 0 where
  pub own : (s : Scene) → Of s → OfLayer s t → (u c : ℕ) → u < t.wide → c < pixel_len
      → get_or row (pixel_len * u + c) 0 ≡ own_at s t.number (y - t.layer.y) u c

-- such a row lies over a part of a line, at the step's alpha or each pixel at its own
pub record LaidOver (Of : Scene → Type 0) (t : Step) (y : ℕ) (part part' : List ℕ) : Type 0 where
  pub row : List ℕ
  pub made : RowMade Of t y row
  pub over : part' ≡ each (over_byte row t.layer.global t.alpha) part

-- the line is as long as the scene's are
abbrev pub OfLine : Scene → List ℕ → Type 0
OfLine s line = length line ≡ pixel_len * width_of s.words

-- line y afterwards has the step's layer over it
pub record Over (Of : Scene → Type 0) (t : Step) (y : ℕ) (line line' : List ℕ) : Type 0 where
  pub over : (s : Scene) → Of s → OfLine s line → OfLayer s t → line' ≡ each (line_byte s y t.number) line

-- it has the first k of `count` layers over it, of which the step is the first
pub record OverTo (Of : Scene → Type 0) (t : Step) (count k y : ℕ) (line line' : List ℕ) : Type 0 where
  pub over : (s : Scene) (l : List ℕ) → Of s → OfLine s line → (0 < count → OfFirst s l t)
      → line' ≡ each (line_to s y l k) line

-- ---- a layer that hides all under it

-- a run lies over a line, opaque all along it: at one alpha, or each pixel at its own
pub record OpaqueOver (run : List ℕ) (global : Bool) (alpha : ℕ) (line line' : List ℕ) : Type 0 where
  pub opaque : (u : ℕ) → u < length run / pixel_len
      → pick global alpha (get_or run (pixel_len * u + alpha_place) 0) ≡ opaque
  pub over : line' ≡ each (over_byte run global alpha) line

-- line y afterwards has the step's layer over it, and so all layers under that one too, whichever they are
pub record Hides (Of : Scene → Type 0) (t : Step) (y : ℕ) (line line' : List ℕ) : Type 0 where
  pub over : (s : Scene) (l : List ℕ) (k : ℕ) → Of s → OfLine s line → OfLayer s t → k < length l → t.number ≡ get_or l k 0
      → line' ≡ each (line_to s y l (k + 1)) line
