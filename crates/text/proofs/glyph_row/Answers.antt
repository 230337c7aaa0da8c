-- `glyph_row` meets its contract: each `return` is a case of `glyph_row`, and the last glyph ends with the font.
-- Assumes nothing.
use native.Mathlib.Omega.{arith}
use Rattle.std.proofs.Math.Facts.{Fits-lt-pow}
use Rattle.text.proofs.TextLaws.{glyph-low, glyph-high, glyph-one, glyph-two}
use Rattle.text.proofs.glyph_row.Goals as goal

pub returns-then-n-lt-FIRST : goal.returns-then-n-lt-FIRST
returns-then-n-lt-FIRST c = glyph-low _ _ _ _ c.from-n.ensures (omega arith)

pub returns-then-n-gt-LAST : goal.returns-then-n-gt-LAST
returns-then-n-gt-LAST c = glyph-high _ _ _ _ c.from-n.ensures (omega arith)

pub returns-then-bits-eq1 : goal.returns-then-bits-eq1
returns-then-bits-eq1 c = glyph-one _ _ _ _ c.from-n.ensures (omega arith) (omega arith) _ (omega arith)
    (rw c.from.ensures (Fits-lt-pow (c.type_inv.font _))) c.from.ensures

pub returns : goal.returns
returns c = glyph-two _ _ _ _ c.from-n.ensures (omega arith) (omega arith) _ _
    c.if-bits-eq1.false c.requires.0 c.requires.1
    (rw c.from-2.ensures (Fits-lt-pow (c.type_inv.font _))) (rw c.from-3.ensures (Fits-lt-pow (c.type_inv.font _))) c.from-2.ensures c.from-3.ensures
