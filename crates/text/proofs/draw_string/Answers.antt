-- `draw_string` meets its contract: before each turn i characters are drawn, the next cell begins
-- where they end, and what is left of the string gives how many it shows; from the line's end on it
-- changes nothing. Assumes nothing.
use mathlib.Core.Path.{◌≡◌, refl, sym, ◌∙◌}
use mathlib.Core.List.{List}
use Prim.Native.Nat.{ℕ, ◌+◌, ◌-◌, ◌*◌, ◌<◌}
use native.Mathlib.Nat.{add-mul}
use native.Mathlib.Omega.{arith}
use borrow.Author.Rules.{rules}
use Rattle.lists.specs.Zero.{zero_from}
use Rattle.lists.proofs.Zero.{zero-passes}
use Rattle.tables.specs.Geometry.{string_len}
use Rattle.draw.specs.Text.{glyph_columns, character, characters_of}
use Rattle.text.proofs.LineLaws.{row-line-none, string-more, string-past, string-stops, string-ends}
use Rattle.text.proofs.draw_string.Goals as goal

pub loop-i-init : goal.loop-i-init
unfolding characters_of
loop-i-init c = (omega arith, omega arith, refl, search (row-line-none, rules))

pub returns-then-line-at : goal.returns-then-line-at
returns-then-line-at c = search (string-past, rules)

pub returns-then-c-eq0 : goal.returns-then-c-eq0
returns-then-c-eq0 c = let h : c.loop-i.i < string_len = omega arith in search (string-stops, rules)

next-at : (z x i at : ℕ) → at ≡ x + glyph_columns * i * z → at + glyph_columns * z ≡ x + glyph_columns * (i + 1) * z
next-at z x i at e =
    let q : glyph_columns * (i + 1) ≡ glyph_columns * i + glyph_columns = omega arith in
    rw q (omega (arith, add-mul (glyph_columns * i) glyph_columns z))

string-passes : (strings : List ℕ) (n i : ℕ) → i < string_len → (character strings n i ≡ 0 → ⊥)
    → zero_from (string_len - i) (character strings n) i ≡ characters_of strings n
    → zero_from (string_len - (i + 1)) (character strings n) (i + 1) ≡ characters_of strings n
string-passes strings n i h ne left = sym (zero-passes string_len (character strings n) i h ne) ∙ left

pub loop-i-preserved : goal.loop-i-preserved
loop-i-preserved c = let h : c.loop-i.i < string_len = omega arith
    in
    (omega arith, search (next-at, rules), search (string-passes, rules), search (string-more, rules))

pub returns : goal.returns
returns c = search (string-ends, rules)
