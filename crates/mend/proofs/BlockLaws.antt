-- Lines gathered from blocks and answered one after the other, as the code leaves them; and however the input
-- is cut into blocks, they print what it prints whole. Assumes nothing.
use Prim.Native.Nat.{ℕ, suc, ◌+◌, ◌-◌, ◌<◌, ◌≤◌, min}
use mathlib.Core.Path.{◌≡◌, refl, sym, ap, ◌∙◌}
use mathlib.Core.Bool.{Bool, true, false}
use mathlib.Core.Logic.{⊎_elim}
use mathlib.Core.List.{List, [], ◌∷◌, ◌++◌, append-nil}
use native.Mathlib.Omega.{arith}
use lib.ListN.{length, take, drop, length-take, length-drop, drop_of_length-le}
use lib.Seq.{length-take-le, take_all, drop-drop}
use lib.Dec.{eqb}
use borrow.Author.Tests.{eq-eqb, ne_eqb}
use Rattle.octets.specs.Bytes.{index_of}
use Rattle.lists.specs.Choice.{choose}
use Rattle.lists.specs.Over.{over}
use Rattle.lists.proofs.Choice.{split}
use Rattle.lists.proofs.Over.{over_none}
use Rattle.texts.specs.declared.Gathered.{Gathered}
use Rattle.texts.specs.Lines.{line_feed, lines_from, ends_in, line_in, held_in, used_in}
use Rattle.texts.specs.Engine.Gathers.{open_from}
use Rattle.texts.proofs.GatherLaws.{held-front, GatheredAs, held_in-is, used_in-bounds, rest-is}
use Rattle.texts.proofs.CutLaws.{kept_lines, gather-left, open_from-end, gather-next}
use Rattle.mend.specs.declared.Answered.{Answered}
use Rattle.mend.specs.Sizes.{image_digits, image_kept, longest_line}
use Rattle.mend.specs.Line.{line_reply, mend_line, mend_lines, mend_text}
use Rattle.mend.specs.Blocks.{fed_text, last_text, answered_of, MendCourse}
use Rattle.mend.specs.Failed.{turns_on, LeftBySome}

-- ---- `feed`: r is what has been gathered from the bytes l into the text u, which was s, of a line that
-- began with x

module _ (x l s u : List ℕ) (r : Gathered) (k : GatheredAs image_kept x l s u r) (inside : r.used ≤ length l) where
  abbrev Feeds : Answered → List ℕ → List ℕ → Type 0
  Feeds f o₀ o =
      (f ≡ answered_of x l) × ((u ≡ over (line_in image_kept x l) s) × ((o ≡ over (fed_text x l) o₀)
      × ((0 < length l → 0 < f.used) × (f.used ≤ length l) × (f.count ≤ longest_line))))

  moves : 0 < length l → 0 < r.used
  moves h = omega (arith, k.used, (used_in-bounds l h).0)

  pub feed-ended : (n : ℕ) (o₀ o : List ℕ) → r.ended ≡ true → n ≡ length (mend_line (take r.kept u))
      → o ≡ over (mend_line (take r.kept u)) o₀ → n ≤ longest_line
      → Feeds (record { held = 0; used = r.used; count = n }) o₀ o
  unfolding fed_text
  feed-ended n o₀ o h en eo fits =
      let z : ends_in l ≡ true = sym k.ended ∙ h in
      let w : mend_line (take r.kept u) ≡ mend_line (line_in image_kept x l) = ap mend_line k.line in
      let e : r.used ≡ index_of line_feed l + 1 = k.used ∙ rw z refl in
      rw z (
        rw (en, w, e) refl,
        (k.text, (eo ∙ ap (λ (q : List ℕ). over q o₀) w, (moves, inside, fits))),
      )

  pub feed-open : (o : List ℕ) → r.ended ≡ false
      → Feeds (record { held = r.kept; used = r.used; count = 0 }) o o
  unfolding fed_text
  feed-open o h =
      let z : ends_in l ≡ false = sym k.ended ∙ h in
      let e : r.used ≡ length l = k.used ∙ rw z refl in
      rw z (
        rw (k.kept, e) refl,
        (k.text, (over_none o, (moves, inside, omega arith))),
      )

-- ---- `pass`: what has come of the next line, behind the bytes of the block l that are left, is w

-- f is what `feed` answers on those bytes
pub pass-turn : (l u u' w : List ℕ) (held at : ℕ) (f : Answered) → at < length l
    → take image_kept (open_from (take held u) (drop at l)) ≡ w
    → f ≡ answered_of (take held u) (take (length l - at) (drop at l))
    → u' ≡ over (line_in image_kept (take held u) (take (length l - at) (drop at l))) u
    → (take image_kept (open_from (take f.held u') (drop (at + f.used) l)) ≡ w) × (at + f.used ≤ length l)
pass-turn l u u' w held at f h e ef eu =
    let rest = drop at l in
    let x = take held u in
    let q : f ≡ answered_of x rest = ef ∙ ap (answered_of x) (rest-is l at) in
    let i : length rest ≡ length l - at = length-drop at l in
    let k : f.used ≡ used_in rest = ap (λ (z : Answered). z.used) q in
    let front : take f.held u' ≡ held_in image_kept x rest =
    ap (λ (z : Answered). take z.held u') q
    ∙ ap (take (length (held_in image_kept x rest)))
    (eu ∙ ap (λ (z : List ℕ). over (line_in image_kept x z) u) (rest-is l at))
    ∙ held_in-is image_kept x rest u in (
      ap (λ (z : List ℕ). take image_kept (open_from z (drop (at + f.used) l))) front
          ∙ ap (λ (z : List ℕ). take image_kept (open_from (held_in image_kept x rest) z))
          (ap (λ (n : ℕ). drop (at + n) l) k ∙ sym (drop-drop (used_in rest) at l))
          ∙ gather-next image_kept x rest
          ∙ e,
      omega (arith, (used_in-bounds rest (omega arith)).1),
    )

pub pass-end : (l u w : List ℕ) (held at : ℕ) → length u ≡ image_kept → length l ≤ at
    → take image_kept (open_from (take held u) (drop at l)) ≡ w → take held u ≡ w
pass-end l u w held at long h e =
    sym (take_all image_kept (take held u) (omega (arith, length-take held u)))
    ∙ ap (take image_kept) (sym (open_from-end (take held u)))
    ∙ ap (λ (z : List ℕ). take image_kept (open_from (take held u) z)) (sym (drop_of_length-le l h))
    ∙ e

-- what turns from here on leave, turns on the whole block left, which found `first` bytes in the text u₀
abbrev pub Turned : List ℕ → ℕ → List ℕ → ℕ → ℕ → List ℕ → Type 0
Turned l first u₀ at held u = (u' : List ℕ) → LeftBySome (drop at l) held u u' → LeftBySome l first u₀ u'

-- f is what `feed` answers on the bytes that are left, and u' the text that it leaves
module _ (l u u' : List ℕ) (at held : ℕ) (f : Answered) (ef : f ≡ answered_of (take held u) (take (length l - at) (drop at l))) (eu : u' ≡ over (line_in image_kept (take held u) (take (length l - at) (drop at l))) u) where
  -- some turns after that one are some with it
  left-with : (v : List ℕ) → LeftBySome (drop (at + f.used) l) f.held u' v → LeftBySome (drop at l) held u v
  unfolding turns_on
  left-with v z =
      let x = take held u in
      let q : f ≡ answered_of x (drop at l) = ef ∙ ap (answered_of x) (rest-is l at) in
      let t : u' ≡ over (line_in image_kept x (drop at l)) u =
      eu ∙ ap (λ (y : List ℕ). over (line_in image_kept x y) u) (rest-is l at) in
      let d : drop (at + f.used) l ≡ drop f.used (drop at l) = sym (drop-drop f.used at l) in (
        suc z.0,
        z.1
            ∙ ap (λ (y : List ℕ). turns_on z.0 y f.held u') d
            ∙ ap (λ (y : Answered). turns_on z.0 (drop y.used (drop at l)) y.held u') q
            ∙ ap (turns_on z.0 (drop (answered_of x (drop at l)).used (drop at l)) (answered_of x (drop at l)).held) t,
      )

  left-now : LeftBySome (drop (at + f.used) l) f.held u' u'
  unfolding turns_on
  left-now = (0, refl)

  module _ (first : ℕ) (u₀ : List ℕ) (k : Turned l first u₀ at held u) where
    -- one turn more
    pub turned-next : Turned l first u₀ (at + f.used) f.held u'
    turned-next v z = k v (left-with v z)

    -- one whose answer could not be written
    pub left-by-last : LeftBySome l first u₀ u'
    left-by-last = turned-next u' left-now

-- ---- `finish`: n bytes are held

module _ (held n : ℕ) (u : List ℕ) (long : length u ≡ image_kept) (en : n ≡ min held image_kept) where
  begun-is : take n u ≡ take held u
  begun-is = held-front u held n (omega arith)

  begun-long : length (take held u) ≡ n
  begun-long = ap length (sym begun-is) ∙ length-take-le n u (omega arith)

  abbrev Finishes : ℕ → List ℕ → List ℕ → Type 0
  Finishes count o₀ o =
      (count ≡ length (last_text (take held u))) × ((o ≡ over (last_text (take held u)) o₀) × (count ≤ longest_line))

  pub finish-none : (o : List ℕ) → n ≡ 0 → Finishes 0 o o
  unfolding last_text
  finish-none o h =
      rw (eq-eqb (length (take held u)) 0 (omega (arith, begun-long))) (refl, (over_none o, omega arith))

  pub finish-some : (count : ℕ) (o₀ o : List ℕ) → (n ≡ 0 → ⊥)
      → (count ≡ length (mend_line (take n u))) × ((o ≡ over (mend_line (take n u)) o₀) × (count ≤ longest_line))
      → Finishes count o₀ o
  unfolding last_text
  finish-some count o₀ o h q =
      rw (ne_eqb (length (take held u)) 0 (λ (z : length (take held u) ≡ 0). h (omega (arith, begun-long))))
      (rw begun-is at q)

-- ---- a line that is too long is one by its first bytes that are kept

too_long : (x : List ℕ) → image_digits < length x → line_reply x ≡ line_reply (take image_kept x)
unfolding line_reply
too_long x h =
    let l : length (take image_kept x) ≡ image_kept = length-take-le image_kept x (omega arith) in
    rw (
      ne_eqb (length x) image_digits (λ (z : length x ≡ image_digits). omega arith),
      ne_eqb (length (take image_kept x)) image_digits (λ (z : length (take image_kept x) ≡ image_digits). omega arith),
    ) refl

mend_line-short : (x : List ℕ) → mend_line (take image_kept x) ≡ mend_line x
unfolding mend_line
mend_line-short x =
    ⊎_elim
    (λ (h : length x < image_kept). ap mend_line (take_all image_kept x (omega arith)))
    (λ (h : image_kept ≤ length x). rw (too_long x (omega arith)) refl)
    (split (length x) image_kept)

mend_lines-kept : (lines : List (List ℕ)) → mend_lines (kept_lines image_kept lines) ≡ mend_lines lines
unfolding mend_lines
mend_lines-kept [] = refl
mend_lines-kept (x ∷ rest) = rw (mend_line-short x, mend_lines-kept rest) refl

-- ---- the bytes l of a block, whatever comes after them

-- what a call prints, and what is left after it, are what was left before it
pub feed-left : (x l more : List ℕ)
    → mend_lines (lines_from x (l ++ more))
    ≡ fed_text x l ++ mend_lines (lines_from (held_in image_kept x l) (drop (used_in l) l ++ more))
unfolding fed_text mend_lines
feed-left x l more =
    sym (mend_lines-kept (lines_from x (l ++ more))) ∙ ap mend_lines (gather-left image_kept x l more (omega arith))
    ∙ go (ends_in l) (lines_from (held_in image_kept x l) (drop (used_in l) l ++ more))
  where
    go : (z : Bool) (rest : List (List ℕ))
        → mend_lines (choose z (line_in image_kept x l ∷ []) [] ++ kept_lines image_kept rest)
        ≡ choose z (mend_line (line_in image_kept x l)) [] ++ mend_lines rest
    go true rest = ap (λ (p : List ℕ). mend_line (line_in image_kept x l) ++ p) (mend_lines-kept rest)
    go false rest = mend_lines-kept rest

-- and what the end prints is all that was left
pub finish-left : (x : List ℕ) → mend_lines (lines_from x []) ≡ last_text x
unfolding lines_from mend_lines last_text
finish-left x = go (eqb (length x) 0)
  where
    go : (z : Bool) → mend_lines (choose z [] (x ∷ [])) ≡ choose z [] (mend_line x)
    go true = refl
    go false = append-nil (mend_line x)

-- calls in a row print what the bytes' lines do
pub course-left : {x bytes printed : List ℕ} → MendCourse x bytes printed → printed ≡ mend_lines (lines_from x bytes)
course-left (MendCourse.at-end x) = sym (finish-left x)
course-left (MendCourse.by-feed x l more printed f) =
    ap (λ (p : List ℕ). fed_text x l ++ p) (course-left f) ∙ sym (feed-left x l more)

-- from the beginning on they print what the program is to print, however the input came
pub course-text : (bytes printed : List ℕ) → MendCourse [] bytes printed → printed ≡ mend_text bytes
unfolding mend_text
course-text bytes printed f = course-left f
