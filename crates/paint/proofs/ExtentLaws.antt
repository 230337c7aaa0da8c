-- The spans of each list of a plan, in places of their own. Assumes nothing.
use mathlib.Core.Path.{◌≡◌, refl, sym, ap, ◌∙◌}
use mathlib.Core.Bool.{true, false, true≢false}
use mathlib.Core.List.{List, ◌++◌}
use mathlib.Core.Logic.{⊎_elim}
use Prim.Native.Nat.{ℕ, ◌+◌, ◌-◌, ◌*◌, ◌≤◌, ◌<◌}
use native.Mathlib.Omega.{arith}
use lib.ListN.{length, get_or, take, drop, length-append, length-drop, get_or-append}
use lib.Seq.{get_or-append-add, get_or-take, length-take-le}
use Rattle.lists.proofs.Choice.{split}
use Rattle.lists.proofs.Tab.{length_part, get_d_part}
use Rattle.tables.specs.Geometry.{list_len}
use Rattle.pen.specs.Engine.Spans.{Spanned}
use Rattle.plan.specs.declared.Step.{Step}
use Rattle.plan.specs.Engine.Plan.{blank_step}
use Rattle.scanline.specs.Engine.Lines.{Extended}
use Rattle.paint.specs.Engine.Rows.{Extends}
use Rattle.plan.proofs.PartLaws.{part-is}

-- spans that other words are, one by one
spanned-same : (ins : List ℕ) (count : ℕ) (l k : List ℕ) → Spanned ins count l → count ≤ length k
    → ((i : ℕ) → i < count → get_or k i 0 ≡ get_or l i 0) → Spanned ins count k
spanned-same ins count l k s h e = record { room = h; span = λ i lt. rw (e i lt) (s.span i lt) }

-- ---- one step

pub extends-beside : (tables : List ℕ) (t : Step) (at : ℕ) (e : List ℕ) → t.layer.graphics ≡ false → Extends tables t at e e
extends-beside tables t at e g =
    record { long = refl; below = λ k lt. refl; here = λ f. absurd (true≢false (sym f ∙ g)) }

-- as the borrow checker writes the part
pub extends-lent : (tables : List ℕ) (t : Step) (at : ℕ) (e new : List ℕ) → at + 48 ≤ length e → length new ≡ 48
    → Spanned (take (t.list + list_len - t.list) (drop t.list tables)) t.end.count new
    → Extends tables t at e (take at e ++ (new ++ drop (at + 48 - at) (drop at e)))
extends-lent tables t at e new room long s =
    let front : length (take at e) ≡ at = length-take-le at e (omega arith) in
    let put = take at e ++ (new ++ drop (at + 48 - at) (drop at e)) in
    let whole : length put ≡ length e = simp (length-append, length-drop) (omega (arith, front)) in
    record {
      long = whole;
      below = λ k lt. get_or-append (take at e) _ 0 k (omega arith) ∙ get_or-take at e k 0 lt;
      here = λ g. record {
        room = omega arith;
        spanned = spanned-same _ _ new _ (rw (part-is tables t.list list_len) at s)
            (rw (length_part put at 48 (omega arith)) (omega (arith, s.room)))
            (λ i lt.
            let q : at + i ≡ length (take at e) + i = omega arith in
            get_d_part put at 48 i (omega (arith, s.room)) ∙ ap (λ (n : ℕ). get_or put n 0) q
            ∙ get_or-append-add (take at e) _ i 0 ∙ get_or-append new _ 0 i (omega (arith, s.room)));
      };
    }

-- ---- all of them, up to step i

-- one that stands before the places written to
kept : (tables : List ℕ) (t : Step) (at : ℕ) (e e' : List ℕ) (from : ℕ) → Extended tables e from t → length e' ≡ length e
    → from + 48 ≤ at → ((k : ℕ) → k < at → get_or e' k 0 ≡ get_or e k 0) → Extended tables e' from t
kept tables t at e e' from x long h same =
    let few : t.end.count ≤ 48 = omega (arith, x.spanned.room, length_part e from 48 x.room) in
    record {
      room = omega (arith, x.room);
      spanned = spanned-same _ _ _ _ x.spanned
          (rw (length_part e' from 48 (omega (arith, x.room))) few)
          (λ i lt. get_d_part e' from 48 i (omega arith) ∙ same (from + i) (omega arith) ∙ sym (get_d_part e from 48 i (omega arith)));
    }

abbrev pub UpTo : List ℕ → List ℕ → List Step → ℕ → Type 0
UpTo tables e steps i =
    (j : ℕ) → j < i → (get_or steps j blank_step).layer.graphics ≡ true → Extended tables e (48 * j) (get_or steps j blank_step)

pub extents-more : (tables e e' : List ℕ) (steps : List Step) (i : ℕ) → UpTo tables e steps i
    → Extends tables (get_or steps i blank_step) (48 * i) e e' → UpTo tables e' steps (i + 1)
extents-more tables e e' steps i u x j lt g = ⊎_elim
    (λ (lo : j < i). kept tables (get_or steps j blank_step) (48 * i) e e' (48 * j) (u j lo g) x.long (omega arith) x.below)
    (λ (ge : i ≤ j). let q : j ≡ i = omega arith in rw q (x.here (rw q at g)))
    (split j i)
