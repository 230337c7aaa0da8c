-- A line is that line of the whole frame, in bytes and in state; all lines in any order, each at least once, are the
-- whole frame; with the display off a line is background, and no bit is set. Assumes nothing.
use mathlib.Core.Path.{◌≡◌, refl, sym, ap, ap₂, ◌∙◌}
use mathlib.Core.Bool.{Bool, true, false}
use mathlib.Core.Logic.{◌⊎◌, inl, inr, ⊎_elim}
use mathlib.Core.List.{List, [], ◌∷◌}
use Prim.Native.Nat.{ℕ, zero, suc, ◌+◌, ◌*◌, ◌/◌, ◌^◌, ◌≤◌, ◌<◌, zero-le, suc-le-suc}
use native.Mathlib.Nat.{le_of_suc-le-suc, not-suc-le-zero, div-lt_iff_lt-mul}
use native.Mathlib.Omega.{arith}
use borrow.Author.Tests.{eqb-false, eq-eqb, ne_eqb, lt-ltb}
use lib.Bits.{bit_or}
use lib.Dec.{eqb}
use lib.Ieee.{Float}
use lib.ListN.{length, get_or}
use Rattle.lists.specs.Choice.{pick}
use Rattle.lists.specs.Steps.{through}
use Rattle.lists.specs.Tab.{tab, each}
use Rattle.lists.proofs.Bits.{or-again}
use Rattle.lists.proofs.Choice.{same_or, pick-twice, refuses-not, either-right, or_else-left, or_else-right}
use Rattle.lists.proofs.Row.{on_row, on_row-here, on_row-other, row-part}
use Rattle.lists.proofs.Steps.{through-again}
use Rattle.lists.proofs.Tab.{length-each, get_d-each, is-tab, is-each, length_part}
use Rattle.answers.specs.Answers.{done}
use Rattle.words.specs.Fields.{shown_of, width_of, height_of}
use Rattle.words.specs.Order.{band_layers}
use Rattle.frames.specs.Scene.{Scene}
use Rattle.frames.specs.Band.{missing, mark_at, band_by, errors_of}
use Rattle.frames.specs.Frame as painting
use Rattle.frames.specs.Line.{line_len, line_refusal, line_refusal_of, frame_line, line_after, line_errors_after}
use Rattle.frames.proofs.BandLaws.{band-through}
use Rattle.frames.proofs.CallerLaws.{paint-fits, length-frame_of}
use Rattle.frames.proofs.LineLaws.{line-fits, frame-lines, line-room, length-frame_line, frame_line-at, frame_of-at, fill-line}
use Rattle.display.specs.declared.Display.{Display}
use Rattle.display.specs.State.{with_errors, told}
use Rattle.display.specs.Paint.{scene_with, paint_told, frame_told, frame_bytes, line_told, line_bytes}
use Rattle.laws.specs.Lines.{Panel, panel, row_in, with_row, line_step, painted_lines, Among, AllLines}
use Rattle.laws.proofs.Exchange.{mark-swap}

-- ---- painting once more sets no other bit

mark-order : (s : Scene) (n m e : ℕ) → mark_at s n (mark_at s m e) ≡ mark_at s m (mark_at s n e)
unfolding mark_at
mark-order s n m e = mark-swap (missing s m) (missing s n) e (2 ^ (4 * m)) (2 ^ (4 * n))

mark-again : (s : Scene) (n e : ℕ) → mark_at s n (mark_at s n e) ≡ mark_at s n e
unfolding mark_at
mark-again s n e =
    pick-twice (missing s n) (λ (z : ℕ). bit_or z (2 ^ (4 * n))) (bit_or e (2 ^ (4 * n))) _ e (or-again e (2 ^ (4 * n)))

errors-again : (s : Scene) (a b e : ℕ) → a ≤ b → b ≤ 8 → errors_of s a b (errors_of s a b e) ≡ errors_of s a b e
unfolding errors_of
errors-again s a b e ab b8 = go (shown_of s.words)
  where
    band : (z : ℕ) → through (mark_at s) (band_layers s.words a b) z ≡ band_by s.words (mark_at s) a b z
    band z = band-through s.words (mark_at s) a b z ab b8

    go : (t : Bool)
        → pick t (band_by s.words (mark_at s) a b (pick t (band_by s.words (mark_at s) a b e) e))
        (pick t (band_by s.words (mark_at s) a b e) e)
        ≡ pick t (band_by s.words (mark_at s) a b e) e
    go true =
        sym (band _) ∙ ap (through (mark_at s) (band_layers s.words a b)) (sym (band e))
        ∙ through-again (mark_at s) (λ n m q. mark-order s n m q) (λ n q. mark-again s n q) (band_layers s.words a b) e
        ∙ band e
    go false = refl

-- ---- a whole frame that is not refused, and its lines

module _ (d : Display) (tables pictures : List ℕ) (floats : List Float) (out : List ℕ)
    (e : (frame_told d tables pictures floats out).answer ≡ done) where
  abbrev s : Scene
  s = scene_with d tables pictures floats

  passes : painting.refusal_of s 0 8 out ≡ done
  unfolding frame_told paint_told
  passes = e

  frame-bytes : frame_bytes d tables pictures floats out ≡ painting.frame_of s
  unfolding frame_bytes painting.frame_after
  frame-bytes = rw passes

  frame-told : frame_told d tables pictures floats out ≡ told (with_errors d (errors_of s 0 8 d.errors)) done
  unfolding frame_told paint_told painting.errors_after
  frame-told = rw passes

  module _ (y : ℕ) (line : List ℕ) (h : y < height_of d.active) (long : length line ≡ line_len d.active) where
    line-passes : line_refusal_of s y line ≡ done
    unfolding line_refusal
    line-passes =
        let f = paint-fits _ _ _ _ _ _ _ _ passes in
        let w : width_of d.active ≡ 0 → ⊥ = λ z. omega (arith, f.wide) in
        let t : height_of d.active ≡ 0 → ⊥ = λ z. omega arith in
        rw (
          ne_eqb _ 0 w,
          ne_eqb _ 0 t,
          lt-ltb _ _ h,
          eq-eqb _ _ long,
          eq-eqb _ _ f.lent,
          eq-eqb _ _ f.shown,
          eq-eqb _ _ f.flows,
        )

    -- whatever the error word
    line-bytes : (errors : ℕ) → line_bytes (with_errors d errors) y tables pictures floats line ≡ frame_line s y
    unfolding line_bytes line_after
    line-bytes errors = rw line-passes

    line-told : (errors : ℕ)
        → line_told (with_errors d errors) y tables pictures floats line ≡ told (with_errors d (errors_of s 0 8 errors)) done
    unfolding line_told line_errors_after
    line-told errors = rw line-passes

    -- a line has the whole frame's bytes there, its answer and its state
    pub line_frame : (line_bytes d y tables pictures floats line ≡ row_in d.active y (frame_bytes d tables pictures floats out))
        × (line_told d y tables pictures floats line ≡ frame_told d tables pictures floats out)
    unfolding frame_line
    line_frame = (
      line-bytes d.errors ∙ ap (row_in d.active y) (sym frame-bytes),
      line-told d.errors ∙ sym frame-told,
    )

  -- ---- into the room of a whole frame

  -- byte i of the frame, whatever was there
  frame_byte : ℕ → ℕ → ℕ
  frame_byte i p = get_or (painting.frame_of s) i 0

  long-out : length out ≡ painting.frame_len d.active
  long-out = (paint-fits _ _ _ _ _ _ _ _ passes).long

  -- the screen has lines, and these have pixels
  tall : 0 < height_of d.active
  unfolding painting.paint_refusal
  tall =
      let size = or_else-left (painting.size_refusal d.active) _ (or_else-right (painting.band_refusal 0 8) _ passes) in
      let none = either-right (eqb (width_of d.active) 0) (eqb (height_of d.active) 0) (refuses-not _ 11 0 size).0 in
      let h : height_of d.active ≡ 0 → ⊥ = eqb-false _ 0 none in
      omega arith

  some : 0 < line_len d.active
  some = let f = paint-fits _ _ _ _ _ _ _ _ passes in omega (arith, f.wide)

  row_laid : (y : ℕ) (room : List ℕ) → y < height_of d.active → length room ≡ painting.frame_len d.active
      → with_row d.active y (frame_line s y) room ≡ each (on_row (line_len d.active) frame_byte y) room
  unfolding frame_byte
  row_laid y room h long =
      let L = line_len d.active in
      let in-room : y * L + L ≤ length room = omega (arith, line-room d.active y h) in
      row-part L frame_byte y room (frame_line s y) (λ i p. get_or (painting.frame_of s) (y * L + i) 0) some in-room
      (is-each (row_in d.active y room) (frame_line s y) _
      (length-frame_line s y h ∙ sym (length_part room (y * L) L in-room))
      (λ i lt. frame_line-at s y i (omega (arith, length_part room (y * L) L in-room))))
      (λ i p lt. refl)

  step_is : (errors y : ℕ) (room : List ℕ) → y < height_of d.active → length room ≡ painting.frame_len d.active
      → line_step tables pictures floats y (panel (with_errors d errors) room)
      ≡ panel (with_errors d (errors_of s 0 8 errors)) (each (on_row (line_len d.active) frame_byte y) room)
  step_is errors y room h long =
      let L = line_len d.active in
      let lent = length_part room (y * L) L (omega (arith, line-room d.active y h)) in
      let line = row_in d.active y room in
      ap₂ panel (ap (λ r. r.state) (line-told y line h lent errors))
      (ap (λ (l : List ℕ). with_row d.active y l room) (line-bytes y line h lent errors) ∙ row_laid y room h long)

  -- ---- a list of lines

  -- the error word after them
  abbrev marks : List ℕ → ℕ → ℕ
  marks [] errors = errors
  marks (y ∷ ys) errors = marks ys (errors_of s 0 8 errors)

  marks-some : (y : ℕ) (ys : List ℕ) (errors : ℕ) → marks (y ∷ ys) errors ≡ errors_of s 0 8 errors
  marks-some y [] errors = refl
  marks-some y (z ∷ ys) errors =
      marks-some z ys (errors_of s 0 8 errors) ∙ errors-again s 0 8 errors (omega arith) (omega arith)

  -- the numbers are of lines
  abbrev Lines : List ℕ → Type 0
  Lines ys = (y : ℕ) → Among y ys → y < height_of d.active

  among_first : (y : ℕ) (ys : List ℕ) → Among y (y ∷ ys)
  among_first y ys = (0, suc-le-suc zero-le, refl)

  among_later : (x y : ℕ) (ys : List ℕ) → Among x ys → Among x (y ∷ ys)
  among_later x y ys m = (suc m.0, suc-le-suc m.1, m.2)

  -- one among y and others that is not y is among the others
  among-other : (x y : ℕ) (ys : List ℕ) → (x ≡ y → ⊥) → Among x (y ∷ ys) → Among x ys
  among-other x y ys ne m = go m.0 m.1 m.2
    where
      go : (i : ℕ) → i < suc (length ys) → get_or (y ∷ ys) i 0 ≡ x → Among x ys
      go zero h q = absurd (ne (sym q))
      go (suc i) h q = (i, le_of_suc-le-suc h, q)

  -- what lines leave: each of them as the frame has it, and what was so already stays
  pub record Laid (ys : List ℕ) (errors : ℕ) (room : List ℕ) (p : Panel) : Type 0 where
    pub state : p.state ≡ with_errors d (marks ys errors)
    pub long : length p.out ≡ painting.frame_len d.active
    pub at : (i : ℕ) → i < painting.frame_len d.active
        → (get_or room i 0 ≡ get_or (painting.frame_of s) i 0) ⊎ Among (i / line_len d.active) ys
        → get_or p.out i 0 ≡ get_or (painting.frame_of s) i 0

  -- a byte after one line more
  step-at : (y i : ℕ) (ys room : List ℕ) → length room ≡ painting.frame_len d.active
      → i < painting.frame_len d.active
      → (get_or room i 0 ≡ get_or (painting.frame_of s) i 0) ⊎ Among (i / line_len d.active) (y ∷ ys)
      → (get_or (each (on_row (line_len d.active) frame_byte y) room) i 0 ≡ get_or (painting.frame_of s) i 0)
      ⊎ Among (i / line_len d.active) ys
  unfolding frame_byte
  step-at y i ys room long h o =
      let L = line_len d.active in
      let now = get_d-each (on_row L frame_byte y) room i (omega arith) in
      ⊎_elim
      (λ (same : i / L ≡ y). inl (now ∙ on_row-here L frame_byte y i (get_or room i 0) same))
      (λ (ne : i / L ≡ y → ⊥). ⊎_elim
      (λ q. inl (now ∙ on_row-other L frame_byte y i (get_or room i 0) ne ∙ q))
      (λ m. inr (among-other (i / L) y ys ne m)) o)
      (same_or (i / L) y)

  lines-laid : (ys : List ℕ) (errors : ℕ) (room : List ℕ) → Lines ys → length room ≡ painting.frame_len d.active
      → Laid ys errors room (painted_lines tables pictures floats ys (panel (with_errors d errors) room))
  unfolding painted_lines
  lines-laid [] errors room lines long =
      record {
        state = refl;
        long = long;
        at = λ i h o. ⊎_elim (λ q. q) (λ m. absurd (not-suc-le-zero m.1)) o;
      }
  lines-laid (y ∷ ys) errors room lines long =
      let L = line_len d.active in
      let e₁ = errors_of s 0 8 errors in
      let room₁ = each (on_row L frame_byte y) room in
      let rest = lines-laid ys e₁ room₁ (λ x m. lines x (among_later x y ys m)) (length-each _ room ∙ long) in
      rw (step_is errors y room (lines y (among_first y ys)) long)
      (record {
        state = rest.state;
        long = rest.long;
        at = λ i h o. rest.at i h (step-at y i ys room long h o);
      })

  -- all lines, in any order, each at least once, give the whole frame's bytes and state
  pub lines-frame : (ys : List ℕ) → AllLines d.active ys
      → ((painted_lines tables pictures floats ys (panel d out)).out ≡ frame_bytes d tables pictures floats out)
      × ((painted_lines tables pictures floats ys (panel d out)).state ≡ (frame_told d tables pictures floats out).state)
  lines-frame ys a =
      let n = painting.frame_len d.active in
      let L = line_len d.active in
      let laid = lines-laid ys d.errors out a.lines long-out in (
        is-tab _ n (λ i. get_or (painting.frame_of s) i 0) laid.long (λ i h. laid.at i h
            (inr (a.all (i / L)
            ((div-lt_iff_lt-mul {k = L} some).1 (omega (arith, frame-lines (width_of d.active) (height_of d.active)))))))
            ∙ sym (is-tab (painting.frame_of s) n (λ i. get_or (painting.frame_of s) i 0) (length-frame_of s) (λ i h. refl))
            ∙ sym frame-bytes,
        laid.state ∙ ap (with_errors d) (marks-all ys (a.all 0 tall)) ∙ sym (ap (λ r. r.state) frame-told),
      )
    where
      marks-all : (ys : List ℕ) → Among 0 ys → marks ys d.errors ≡ errors_of s 0 8 d.errors
      marks-all [] m = absurd (not-suc-le-zero m.1)
      marks-all (y ∷ ys) m = marks-some y ys d.errors

-- ---- with the display off

pub line-off : (d : Display) (y : ℕ) (tables pictures : List ℕ) (floats : List Float) (line : List ℕ)
    → (line_told d y tables pictures floats line).answer ≡ done
    → shown_of d.active ≡ false
    → (line_bytes d y tables pictures floats line ≡ tab (line_len d.active) (painting.fill_byte d.active))
    × ((line_told d y tables pictures floats line).state ≡ d)
unfolding line_told line_bytes line_errors_after line_after errors_of
line-off d y tables pictures floats line e off =
    let s = scene_with d tables pictures floats in
    let f = line-fits _ _ _ _ _ _ _ e in (
      rw e (is-tab (frame_line s y) _ _ (length-frame_line s y f.number) (λ i h.
          frame_line-at s y i h
          ∙ frame_of-at s (y * line_len d.active + i) (omega (arith, line-room d.active y f.number))
          ∙ rw off (fill-line d.active y i))),
      rw (e, off),
    )
