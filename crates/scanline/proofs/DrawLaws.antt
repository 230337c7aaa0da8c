-- A line of colour indexes through a layer's colours is a row of that layer. Assumes nothing.
use mathlib.Core.Path.{◌≡◌, ap, ◌∙◌}
use mathlib.Core.List.{List}
use Prim.Native.Nat.{ℕ, ◌+◌, ◌-◌, ◌*◌, ◌/◌, ◌%◌, ◌≤◌, ◌<◌}
use native.Mathlib.Omega.{arith}
use lib.ListN.{length, get_or, take, drop}
use Rattle.lists.specs.Tab.{tab}
use Rattle.lists.proofs.Tab.{length-tab, get_d-tab}
use Rattle.profiles.specs.Profile.{bits_of}
use Rattle.tables.specs.Geometry.{tables_len, kind_len, list_kind, colours_kind, strings_kind, font_kind}
use Rattle.tables.specs.Geometry.{instructions, list_len, strings_len, font_len}
use Rattle.tables.specs.Selection.{active_at}
use Rattle.tables.proofs.Geometry.{bank-room}
use Rattle.draw.specs.Engine.Tables.{Tables}
use Rattle.draw.specs.Drawing.{count_of, index_at}
use Rattle.draw.proofs.IndexLaws.{index_at-lt}
use Rattle.pen.specs.Engine.Spans.{Spanned}
use Rattle.colours.specs.Rows.{colour_byte, colour_row, PaletteOf}
use Rattle.colours.proofs.RowLaws.{colour_byte-is}
use Rattle.frames.specs.Scene.{Scene}
use Rattle.frames.specs.Pixel.{bank_bytes, colour_index, graphics_at}
use Rattle.plan.specs.declared.Step.{Step}
use Rattle.plan.specs.Engine.Plan.{part_at, OfLayer}
use Rattle.scanline.specs.Engine.Lines.{Banked, Extended, drawn_indexes, Draws}
use Rattle.plan.proofs.PartLaws.{part-is, length-lent}

-- ---- the banks

pub active-room : (bits : ℕ) (w : List ℕ) (kind n : ℕ) → n < 8
    → active_at bits w n kind + kind_len bits kind ≤ tables_len bits
active-room bits w kind n h = bank-room bits n _ kind h (omega arith)

module _ (s : Scene) (t : Step) (m : OfLayer s t) where
  pub list-is : part_at s.tables t.list list_len ≡ bank_bytes (bits_of s.profile) s.words s.tables t.number list_kind
  unfolding bank_bytes kind_len
  list-is = rw m.list

  strings-is : part_at s.tables t.strings strings_len ≡ bank_bytes (bits_of s.profile) s.words s.tables t.number strings_kind
  unfolding bank_bytes kind_len
  strings-is = rw m.strings

  font-is : part_at s.tables t.font (font_len t.bits) ≡ bank_bytes (bits_of s.profile) s.words s.tables t.number font_kind
  unfolding bank_bytes kind_len
  font-is = rw (m.font, m.glyph)

-- ---- the row that they draw

module _ (bits : ℕ) (w tables : List ℕ) (n v pixels : ℕ) (indexes row palette : List ℕ) where
  index-at : indexes ≡ tab pixels
      (index_at bits (bank_bytes bits w tables n list_kind) (bank_bytes bits w tables n strings_kind)
      (bank_bytes bits w tables n font_kind) v)
      → (u : ℕ) → u < pixels → get_or indexes u 0 ≡ colour_index bits w tables n v u
  unfolding colour_index
  index-at e u h = ap (λ (l : List ℕ). get_or l u 0) e ∙ get_d-tab pixels _ u h

  index-lt : (u : ℕ) → colour_index bits w tables n v u < 16
  unfolding colour_index
  index-lt u = index_at-lt _ _ _ _ v u

  drawn-is : indexes ≡ tab pixels
      (index_at bits (bank_bytes bits w tables n list_kind) (bank_bytes bits w tables n strings_kind)
      (bank_bytes bits w tables n font_kind) v)
      → row ≡ tab (4 * pixels) (colour_byte indexes palette) → PaletteOf palette (bank_bytes bits w tables n colours_kind)
      → (u c : ℕ) → u < pixels → c < 4 → get_or row (4 * u + c) 0 ≡ graphics_at bits w tables n v u c
  unfolding graphics_at
  drawn-is e f p u c h hc =
      let q : (4 * u + c) / 4 ≡ u = omega arith in
      let r : (4 * u + c) % 4 ≡ c = omega arith in
      let i = index-at e u h in
      ap (λ (l : List ℕ). get_or l (4 * u + c) 0) f ∙ get_d-tab (4 * pixels) _ (4 * u + c) (omega arith)
      ∙ colour_byte-is indexes palette (bank_bytes bits w tables n colours_kind) (4 * u + c) p (rw (q, i) (index-lt u))
      ∙ rw (q, r, i)

-- in a scene that lends the tables, it is the layer's
pub row-drawn : (s : Scene) (t : Step) → OfLayer s t → (tables : List ℕ) (v pixels : ℕ) (indexes : List ℕ) → Draws tables s
    → indexes ≡ drawn_indexes tables t v pixels → (u c : ℕ) → u < pixels → c < 4
    → get_or (colour_row indexes t.palette) (4 * u + c) 0
    ≡ graphics_at (bits_of s.profile) s.words s.tables t.number v u c
unfolding drawn_indexes
row-drawn s t m tables v pixels indexes same e =
    drawn-is (bits_of s.profile) s.words s.tables t.number v pixels indexes _ t.palette
    (rw (← same, list-is s t m, strings-is s t m, font-is s t m, m.glyph) at e)
    (ap (λ (n : ℕ). tab (4 * n) (colour_byte indexes t.palette)) (ap length e ∙ length-tab _ _)) m.palette

-- ---- as the code has it, with the parts as the borrow checker writes them

module _ (tables : List ℕ) (t : Step) (k : Banked tables t) where
  pub banked-tables : Tables t.bits (take (t.list + list_len - t.list) (drop t.list tables))
      (take (t.strings + strings_len - t.strings) (drop t.strings tables))
      (take (t.font + font_len t.bits - t.font) (drop t.font tables))
  banked-tables =
      record {
        some = k.some;
        few = k.few;
        ins-long = length-lent tables t.list list_len k.list;
        strings-long = length-lent tables t.strings strings_len k.strings;
        font-long = length-lent tables t.font (font_len t.bits) k.font;
      }

  pub banked-count : t.end.count ≡ count_of (take (t.list + list_len - t.list) (drop t.list tables))
  banked-count = rw (part-is tables t.list list_len) k.count

pub banked-indexes : (tables : List ℕ) (t : Step) (v pixels : ℕ) (indexes : List ℕ)
    → indexes ≡ tab pixels (index_at t.bits (take (t.list + list_len - t.list) (drop t.list tables))
    (take (t.strings + strings_len - t.strings) (drop t.strings tables))
    (take (t.font + font_len t.bits - t.font) (drop t.font tables)) v)
    → indexes ≡ drawn_indexes tables t v pixels
unfolding drawn_indexes
banked-indexes tables t v pixels indexes e =
    rw (
      part-is tables t.list list_len,
      part-is tables t.strings strings_len,
      part-is tables t.font (font_len t.bits),
    ) at e

-- and the spans of its instructions
pub extended-spans : (tables extents : List ℕ) (t : Step) (at : ℕ) → Extended tables extents at t
    → Spanned (take (t.list + list_len - t.list) (drop t.list tables)) t.end.count
    (take (at + instructions - at) (drop at extents))
extended-spans tables extents t at k = rw (part-is tables t.list list_len, part-is extents at instructions) k.spanned
