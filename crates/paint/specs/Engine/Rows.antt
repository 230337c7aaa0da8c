-- What the workers of `src/` do, on the way to `Rattle.frames.specs.Frame`: said, as a line's workers have
-- it, of every scene that lends their buffers. No definition of the document rests on these. Assumes nothing.
use Rattle.std.specs.Prelude.{ℕ, ◌+◌, ◌*◌, ◌/◌, ◌<◌, ◌≤◌, ◌≡◌, Bool, true, List, ltb, Float, length, get_or, Option, Some}
use Rattle.lists.specs.Choice.{pick}
use Rattle.lists.specs.Tab.{each}
use Rattle.mix.specs.declared.Ground.{Ground}
use Rattle.words.specs.Fields.{shown_of, width_of, grounds_of}
use Rattle.tables.specs.Geometry.{instructions}
use Rattle.span.specs.Engine.Tints.{Grounded}
use Rattle.frames.specs.Scene.{Scene}
use Rattle.frames.specs.Band.{band_byte}
use Rattle.frames.specs.Frame.{fill_byte}
use Rattle.frames.specs.Line.{line_len}
use Rattle.plan.specs.declared.Part.{Part}
use Rattle.plan.specs.declared.Plan.{Plan}
use Rattle.plan.specs.declared.Step.{Step}
use Rattle.plan.specs.Engine.Plan.{blank_step, OfPart, OfLayers}
use Rattle.scanline.specs.declared.Painting.{Painting}
use Rattle.scanline.specs.Engine.Lines.{Lent, Banked, Extended, Scratch, OfLine, band_line, line_to, under_byte, Lends}

-- ---- bytes

-- byte i of an output that has the part's lines: the part's band over what was there, or over the background where
-- the frame is a fresh one
unfoldable pub laid_byte : Scene → Part → Bool → ℕ → ℕ → ℕ
laid_byte s part fresh i p =
    band_byte s part.low part.high (part.first * line_len s.words + i) (pick fresh (fill_byte s.words i) p)

-- the same of line y
unfoldable pub laid_line : Scene → Part → Bool → ℕ → ℕ → ℕ → ℕ
laid_line s part fresh y i p = band_line s part.low part.high y i (pick fresh (fill_byte s.words i) p)

-- and of the output after its first k lines
unfoldable pub rows_byte : Scene → Part → Bool → ℕ → ℕ → ℕ → ℕ
rows_byte s part fresh k i p = pick (ltb (i / line_len s.words) k) (laid_byte s part fresh i p) p

-- byte i of it, whether the display is on or off
unfoldable pub part_byte : Scene → Part → Bool → ℕ → ℕ → ℕ
part_byte s part fresh i p =
    pick (shown_of s.words) (laid_byte s part fresh i p) (pick fresh (fill_byte s.words i) p)

-- ---- what a worker asks

-- buffers of the right lengths: the output has the part's lines, which have pixels
pub record PartFits (s : Scene) (part : Part) (out : List ℕ) : Type 0 where
  pub lent : Lent s
  pub long : length out ≡ part.count * line_len s.words
  pub wide : 0 < width_of s.words
  pub low : part.low ≤ part.high
  pub high : part.high ≤ 8

-- a plan whose graphics layers have their banks in the tables
pub record AllBanked (tables : List ℕ) (p : Plan) : Type 0 where
  pub few : p.count ≤ 8
  pub banked : (j : ℕ) → j < p.count → (get_or p.steps j blank_step).layer.graphics ≡ true
      → Banked tables (get_or p.steps j blank_step)

-- the spans of their instructions, of each in places of its own
pub record AllExtended (tables extents : List ℕ) (p : Plan) : Type 0 where
  pub extended : (j : ℕ) → j < p.count → (get_or p.steps j blank_step).layer.graphics ≡ true
      → Extended tables extents (instructions * j) (get_or p.steps j blank_step)

-- those of one step put in their places, where it has a list; what stands before them stays
pub record Extends (tables : List ℕ) (t : Step) (at : ℕ) (e e' : List ℕ) : Type 0 where
  pub long : length e' ≡ length e
  pub below : (k : ℕ) → k < at → get_or e' k 0 ≡ get_or e k 0
  pub here : t.layer.graphics ≡ true → Extended tables e' at t

-- a palette of a step's colours over the background
abbrev pub Under : Ground → Step → List ℕ → Type 0
Under g t under = Grounded t.palette t.layer.global t.alpha g.c0 g.c1 g.c2 under

-- a background, where there is one, is that of the words
abbrev pub Backed : Option Ground → List ℕ → Type 0
Backed o w = (g : Ground) → o ≡ Some g → g ≡ grounds_of w

-- what the rows of a plan's layers are made with, on lines of so many bytes
pub record Prepared (bytes : ℕ) (indexes row : List ℕ) (q : Painting) (p : Plan) : Type 0 where
  pub scratch : Scratch bytes indexes row
  pub lists : AllExtended q.tables.now q.extents.now p
  pub first : (g : Ground) → q.ground ≡ Some g → Under g (get_or p.steps 0 blank_step) q.under.now

-- ---- what a worker does, in every such scene

-- the scene has these words, tables, pictures and floats
abbrev pub Holds : List ℕ → List ℕ → List ℕ → List Float → Scene → Type 0
Holds w tables pictures floats s = (s.words ≡ w) × Lends tables pictures floats s

-- line y afterwards has its ground, and over that the first k layers of the plan
pub record LaidTo (Of : Scene → Type 0) (o : Option Ground) (p : Plan) (k y : ℕ) (line line' : List ℕ) : Type 0 where
  pub over : (s : Scene) (l : List ℕ) → Of s → OfLine s line → OfLayers s l p
      → line' ≡ each (line_to s y l k) (each (under_byte o) line)

-- line y is one of the part's
pub record OnLines (part : Part) (y : ℕ) : Type 0 where
  pub from : part.first ≤ y
  pub to : y < part.first + part.count

-- the output afterwards has the background where the frame is a fresh one, and over that the plan's part
pub record RowsLaid (Of : Scene → Type 0) (p : Plan) (part : Part) (fresh : Bool) (out out' : List ℕ) : Type 0 where
  pub laid : (s : Scene) → Of s → OfPart s part p → out' ≡ each (laid_byte s part fresh) out
