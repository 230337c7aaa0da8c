-- A part of a frame, and the two parts that are painted: a band over the whole output, and one line of a whole
-- frame. Assumes nothing.
use mathlib.Core.Path.{◌≡◌, refl, sym, ap, ◌∙◌}
use mathlib.Core.Bool.{Bool, true, false}
use mathlib.Core.List.{List}
use Prim.Native.Nat.{ℕ, ◌+◌, ◌*◌, ◌<◌}
use native.Mathlib.Nat.{one-mul}
use native.Mathlib.Omega.{arith}
use borrow.Author.Tests.{ne_eqb}
use lib.ListN.{length}
use Rattle.std.specs.Prelude.{Result, Ok}
use Rattle.std.specs.Result.{IsErrAnd}
use Rattle.std.proofs.lemmas.Result.{err_from_is_err_and}
use Rattle.lists.specs.Choice.{pick, choose}
use Rattle.lists.specs.Tab.{each}
use Rattle.lists.proofs.Tab.{is-each, each-cong, each-each}
use Rattle.answers.specs.Refusals.{number_of}
use Rattle.answers.specs.declared.Refusal.{Refusal}
use Rattle.words.specs.Fields.{shown_of, width_of, height_of}
use Rattle.frames.specs.Scene.{Scene}
use Rattle.frames.specs.Band.{mark_at, band_by, band_byte, band_of, errors_of}
use Rattle.frames.specs.Frame.{frame_len, refusal_of, fill_byte, fill_of, errors_after}
use Rattle.frames.specs.Line.{line_len, line_refusal_of, frame_line, line_after, line_errors_after}
use Rattle.frames.proofs.CallerLaws.{paint-fits}
use Rattle.frames.proofs.LineLaws.{line-fits, frame-lines, line-room, length-frame_line, frame_line-at, frame_of-at, fill-line}
use Rattle.plan.specs.declared.Part.{Part}
use Rattle.paint.specs.Engine.Rows.{laid_byte, part_byte, PartFits}
use Rattle.paint.specs.Painted.{answered, painted_by, told_of, output_of, line_told_of}
use Rattle.paint.proofs.FrameLaws.{number-some}
use Rattle.paint.proofs.GroundLaws.{ground-all}

module _ (s : Scene) (part : Part) (fresh : Bool) (e : ℕ) (out : List ℕ) where
  -- the error word and the output afterwards
  abbrev Laid : ℕ → List ℕ → Type 0
  Laid e' out' = (e' ≡ errors_of s part.low part.high e) × (out' ≡ each (part_byte s part fresh) out)

  -- with the display off there are no layers
  pub part_off : (out' : List ℕ) → shown_of s.words ≡ false → out' ≡ each (λ i p. pick fresh (fill_byte s.words i) p) out
      → Laid e out'
  unfolding errors_of part_byte
  part_off out' t f = (rw t, f ∙ each-cong _ _ out (λ i p. rw t))

  pub part-on : (e' : ℕ) (out' : List ℕ) → shown_of s.words ≡ true
      → e' ≡ band_by s.words (mark_at s) part.low part.high e → out' ≡ each (laid_byte s part fresh) out → Laid e' out'
  unfolding errors_of part_byte
  part-on e' out' t f g = (rw t f, g ∙ each-cong _ _ out (λ i p. rw t))

-- what a `?` hands on
painted-refused : (o : Result ℕ Refusal) (r : Refusal) (errors : ℕ) → IsErrAnd o (λ q. q ≡ r)
    → painted_by o errors ≡ answered (number_of r) errors
painted-refused o r errors k =
    let p = err_from_is_err_and o k in
    ap (λ (o : Result ℕ Refusal). painted_by o errors) p.1 ∙ ap (λ (q : Refusal). answered (number_of q) errors) p.2

-- ---- a band over the whole output

abbrev pub whole_part : List ℕ → ℕ → ℕ → Part
whole_part w a b = record { low = a; high = b; first = 0; count = height_of w }

module _ (s : Scene) (a b : ℕ) (fresh : Bool) (out : List ℕ) where
  pub whole-fits : 0 ≡ refusal_of s a b out → PartFits s (whole_part s.words a b) out
  whole-fits z =
      let f = paint-fits _ _ _ _ _ _ _ _ (sym z) in
      record {
        lent = record { tables = f.lent; pictures = f.shown; floats = f.flows };
        long = f.long ∙ sym (frame-lines (width_of s.words) (height_of s.words));
        wide = f.wide;
        low = f.low;
        high = f.high;
      }

  whole-bytes : length out ≡ frame_len s.words
      → each (part_byte s (whole_part s.words a b) fresh) out ≡ band_of s a b (choose fresh (fill_of s.words) out)
  unfolding part_byte laid_byte band_of
  whole-bytes e =
      rw (← (ground-all s.words fresh out e)) (go (shown_of s.words))
    where
      go : (t : Bool)
          → each (λ i p. pick t (band_byte s a b (0 * line_len s.words + i) (pick fresh (fill_byte s.words i) p))
          (pick fresh (fill_byte s.words i) p)) out
          ≡ choose t (each (band_byte s a b) (each (λ i p. pick fresh (fill_byte s.words i) p) out))
          (each (λ i p. pick fresh (fill_byte s.words i) p) out)
      go true =
          each-cong _ _ out (λ i p. let q : 0 * line_len s.words + i ≡ i = omega arith in rw q)
          ∙ sym (each-each (λ i p. pick fresh (fill_byte s.words i) p) (band_byte s a b) out)
      go false = refl

  module _ (errors : ℕ) where
    -- an outcome and an output, as a band promises them
    abbrev WholeDone : Result ℕ Refusal → List ℕ → Type 0
    WholeDone outcome out' = (painted_by outcome errors ≡ told_of s a b out errors) × (out' ≡ output_of s a b fresh out)

    pub whole-refused : (r : Refusal) (o : Result ℕ Refusal) → number_of r ≡ refusal_of s a b out → IsErrAnd o (λ q. q ≡ r)
        → WholeDone o out
    unfolding errors_after
    whole-refused r o e k =
        let ne = ne_eqb (number_of r) 0 (number-some r) in (painted-refused o r errors k ∙ rw (← e, ne), rw (← e, ne))

    pub whole-done : (after : ℕ) (out' : List ℕ) → 0 ≡ refusal_of s a b out → after ≡ errors_of s a b errors
        → out' ≡ each (part_byte s (whole_part s.words a b) fresh) out → WholeDone (Ok after) out'
    unfolding errors_after
    whole-done after out' z m f =
        let fits = paint-fits _ _ _ _ _ _ _ _ (sym z) in
        (rw (← z) (ap (answered 0) m), rw (← z) (f ∙ whole-bytes fits.long))

-- ---- a line

abbrev pub line_part : ℕ → Part
line_part y = record { low = 0; high = 8; first = y; count = 1 }

module _ (s : Scene) (y : ℕ) (out : List ℕ) where
  pub asked-fits : 0 ≡ line_refusal_of s y out → PartFits s (line_part y) out
  asked-fits z =
      let f = line-fits _ _ _ _ _ _ _ (sym z) in
      record {
        lent = record { tables = f.lent; pictures = f.shown; floats = f.flows };
        long = f.long ∙ sym (one-mul (line_len s.words));
        wide = f.wide;
        low = omega arith;
        high = omega arith;
      }

  line-bytes : y < height_of s.words → length out ≡ line_len s.words
      → each (part_byte s (line_part y) true) out ≡ frame_line s y
  unfolding part_byte laid_byte
  line-bytes h long =
      sym (is-each out (frame_line s y) _ (length-frame_line s y h ∙ sym long) (λ i lt.
      let j : i < line_len s.words = omega arith in
      frame_line-at s y i j
      ∙ frame_of-at s (y * line_len s.words + i) (omega (arith, line-room s.words y h))
      ∙ rw (fill-line s.words y i)))

  module _ (errors : ℕ) where
    abbrev LineDone : Result ℕ Refusal → List ℕ → Type 0
    LineDone outcome out' = (painted_by outcome errors ≡ line_told_of s y out errors) × (out' ≡ line_after s y out)

    pub line-refused : (r : Refusal) (o : Result ℕ Refusal) → number_of r ≡ line_refusal_of s y out → IsErrAnd o (λ q. q ≡ r)
        → LineDone o out
    unfolding line_errors_after line_after
    line-refused r o e k =
        let ne = ne_eqb (number_of r) 0 (number-some r) in (painted-refused o r errors k ∙ rw (← e, ne), rw (← e, ne))

    pub line-done : (after : ℕ) (out' : List ℕ) → 0 ≡ line_refusal_of s y out → after ≡ errors_of s 0 8 errors
        → out' ≡ each (part_byte s (line_part y) true) out → LineDone (Ok after) out'
    unfolding line_errors_after line_after
    line-done after out' z m f =
        let fits = line-fits _ _ _ _ _ _ _ (sym z) in
        (rw (← z) (ap (answered 0) m), rw (← z) (f ∙ line-bytes fits.number fits.long))
