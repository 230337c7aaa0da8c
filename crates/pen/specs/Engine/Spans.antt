-- The rows that an instruction can touch, as one word: its first row in the lower half, the first row after it in the
-- upper one. No definition of the document rests on this. Assumes nothing.
use Rattle.std.specs.Prelude.{◌≡◌, Bool, false, List, ℕ, ◌+◌, ◌*◌, ◌/◌, ◌%◌, ◌^◌, ◌<◌, ◌≤◌, max, leb, ltb, eqb, length, get_or}
use Rattle.lists.specs.Choice.{pick, both}
use Rattle.tables.specs.Geometry.{glyph_rows}
use Rattle.draw.specs.Instruction.{opcode, scale, y_start, y_end}
use Rattle.draw.specs.Drawing.{drawn_by}

-- the rows from `top` up to but not `end`
abbrev pub rows : ℕ → ℕ → ℕ
rows top end = top + 2 ^ 16 * end

-- whether row v is one of a span's
unfoldable pub on_span : ℕ → ℕ → Bool
on_span span v = both (leb (span % 2 ^ 16) v) (ltb v (span / 2 ^ 16))

module _ (ins : List ℕ) (k : ℕ) where
  -- the first row after the box, and after the text
  abbrev pub box_end : ℕ
  box_end = y_end ins k + 1

  abbrev pub text_end : ℕ
  text_end = y_start ins k + glyph_rows * scale ins k

  -- the rows of instruction k: a box's, a text's, those of both, or none
  unfoldable pub span_of : ℕ
  span_of =
      pick (eqb (opcode ins k) 10) (rows (y_start ins k) box_end)
      (pick (eqb (opcode ins k) 12) (rows (y_start ins k) text_end)
      (pick (eqb (opcode ins k) 14) (rows (y_start ins k) (max box_end text_end)) 0))

-- a word is the span of instruction k, which draws nothing on a row beside it, whatever the strings and the font are
pub record Span (ins : List ℕ) (k span : ℕ) : Type 0 where
  pub is : span ≡ span_of ins k
  pub beside : (v : ℕ) → on_span span v ≡ false → (bits : ℕ) (strings font : List ℕ) (u old : ℕ)
      → drawn_by bits ins strings font k v u old ≡ old

-- the first `count` words are the spans of as many instructions
pub record Spanned (ins : List ℕ) (count : ℕ) (spans : List ℕ) : Type 0 where
  pub room : count ≤ length spans
  pub span : (k : ℕ) → k < count → Span ins k (get_or spans k 0)
