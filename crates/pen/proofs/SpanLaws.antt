-- The laws of spans: a row beside a span is above it or below it, and there neither the box nor the text of its
-- instruction draws. Assumes nothing.
use mathlib.Core.Path.{◌≡◌, sym, ◌∙◌}
use mathlib.Core.Logic.{◌⊎◌, inl, inr, ⊎_elim}
use mathlib.Core.Bool.{Bool, false}
use mathlib.Core.List.{List}
use Prim.Native.Nat.{ℕ, ◌+◌, ◌*◌, ◌/◌, ◌%◌, ◌^◌, ◌≤◌, ◌<◌, max}
use native.Mathlib.Omega.{arith}
use lib.ListN.{get_or}
use borrow.Author.Tests.{ne_eqb, le-leb, ltb-false}
use Rattle.lists.specs.Tab.{each}
use Rattle.lists.proofs.Choice.{split, both-not}
use Rattle.lists.proofs.Tab.{each-id}
use Rattle.tables.specs.Geometry.{glyph_rows}
use Rattle.draw.specs.Instruction.{word_of, opcode, scale_of}
use Rattle.draw.specs.Box.{box_of}
use Rattle.draw.specs.Text.{text_of}
use Rattle.draw.specs.Drawing.{drawn_by}
use Rattle.boxes.proofs.BoxLaws.{box-above, box-below}
use Rattle.text.proofs.TextLaws.{text-above, text-below}
use Rattle.pen.specs.Engine.Spans.{rows, on_span, span_of, Span, Spanned}

-- ---- a row beside a span

module _ (ins : List ℕ) (k v w2 end : ℕ) (e2 : w2 ≡ word_of ins k 2) (off : (v < w2 % 4096) ⊎ (end ≤ v)) where
  box-off : w2 / 4096 % 4096 < end → (u old : ℕ) → box_of ins k v u old ≡ old
  unfolding box_of
  box-off h u old = ⊎_elim
      (λ (a : v < w2 % 4096). box-above _ _ _ _ _ _ v (rw e2 at a) u old)
      (λ (b : end ≤ v). let q : w2 / 4096 % 4096 < v = omega arith in box-below _ _ _ _ _ _ v (rw e2 at q) u old)
      off

  text-off : (bits : ℕ) (strings font : List ℕ) (z : ℕ) → z ≡ scale_of (w2 / 1073741824) → 0 < z
      → w2 % 4096 + glyph_rows * z ≤ end → (u old : ℕ) → text_of bits ins strings font k v u old ≡ old
  unfolding text_of
  text-off bits strings font z ez pos h u old = ⊎_elim
      (λ (a : v < w2 % 4096). text-above bits strings font _ _ _ _ _ v (rw e2 at a) u old)
      (λ (b : end ≤ v). let q : w2 % 4096 + glyph_rows * z ≤ v = omega arith in
      text-below bits strings font _ _ _ _ _ v (rw (ez, e2) at pos) (rw (ez, e2) at q) u old)
      off

above-or-below : (span top end v : ℕ) → span ≡ rows top end → top < 2 ^ 16 → on_span span v ≡ false
    → (v < top) ⊎ (end ≤ v)
unfolding on_span
above-or-below span top end v e h off = ⊎_elim
    (λ (a : v < top). inl a)
    (λ (g : top ≤ v). let q : span % 2 ^ 16 ≤ v = omega arith in
    let b : span / 2 ^ 16 ≤ v = ltb-false _ _ (both-not _ _ off (le-leb _ _ q)) in inr (omega arith))
    (split v top)

-- ---- the span of an instruction, by its opcode

module _ (ins : List ℕ) (k w2 op span : ℕ) (e2 : w2 ≡ word_of ins k 2) (eo : op ≡ opcode ins k) where
  pub span-box : op ≡ 10 → span ≡ rows (w2 % 4096) (w2 / 4096 % 4096 + 1) → Span ins k span
  unfolding drawn_by span_of
  span-box e s = record {
    is = s ∙ rw (← eo, e, e2);
    beside = λ v b bits strings font u old. rw (← eo, e)
        (box-off ins k v w2 _ e2 (above-or-below span _ _ v s (omega arith) b) (omega arith) u old);
  }

  module _ (z : ℕ) (ez : z ≡ scale_of (w2 / 1073741824)) (pos : 0 < z) where
    pub span-text : op ≡ 12 → span ≡ rows (w2 % 4096) (w2 % 4096 + glyph_rows * z) → Span ins k span
    unfolding drawn_by span_of
    span-text e s = record {
      is = s ∙ rw (← eo, e, ez, e2);
      beside = λ v b bits strings font u old. rw (← eo, e)
          (text-off ins k v w2 _ e2 (above-or-below span _ _ v s (omega arith) b) bits strings font z ez pos (omega arith)
          u old);
    }

    pub span-both : (end : ℕ) → op ≡ 14 → end ≡ max (w2 / 4096 % 4096 + 1) (w2 % 4096 + glyph_rows * z)
        → span ≡ rows (w2 % 4096) end → Span ins k span
    unfolding drawn_by span_of
    span-both end e m s = record {
      is = s ∙ rw (← eo, e, m, ez, e2);
      beside = λ v b bits strings font u old. let off = above-or-below span _ end v s (omega arith) b in
          rw (← eo, e)
          (text-off ins k v w2 end e2 off bits strings font z ez pos (omega arith) u _
          ∙ box-off ins k v w2 end e2 off (omega arith) u old);
    }

-- an instruction that draws nothing on any row
pub span_none : (ins : List ℕ) (k op span : ℕ) → op ≡ opcode ins k → (op ≡ 10 → ⊥) → (op ≡ 12 → ⊥) → (op ≡ 14 → ⊥)
    → span ≡ 0 → Span ins k span
unfolding drawn_by span_of
span_none ins k op span eo a b c s = record {
  is = s ∙ rw (← eo, ne_eqb _ 10 a, ne_eqb _ 12 b, ne_eqb _ 14 c);
  beside = λ v _ bits strings font u old. rw (← eo, ne_eqb _ 10 a, ne_eqb _ 12 b, ne_eqb _ 14 c);
}

-- ---- a line that an instruction leaves

pub line-beside : (bits : ℕ) (ins strings font spans : List ℕ) (count k v : ℕ) (on : Bool) (l : List ℕ)
    → Spanned ins count spans → k < count → on ≡ on_span (get_or spans k 0) v → on ≡ false
    → l ≡ each (drawn_by bits ins strings font k v) l
line-beside bits ins strings font spans count k v on l s h e f =
    each-id _ l ((s.span k h).beside v (sym e ∙ f) bits strings font)
