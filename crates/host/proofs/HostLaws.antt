-- The cases of the entry, and the order of its refusals. Assumes nothing.
use mathlib.Core.Path.{◌≡◌, refl, sym, ap, ◌∙◌}
use mathlib.Core.Bool.{Bool, true, false}
use mathlib.Core.Logic.{⊎_elim}
use mathlib.Core.List.{List}
use Prim.Native.Nat.{ℕ}
use native.Mathlib.Omega.{arith}
use borrow.Author.Tests.{eq-eqb, ne_eqb}
use lib.Dec.{eqb}
use lib.ListN.{length}
use Rattle.lists.specs.Choice.{pick, either, or_else}
use Rattle.lists.specs.Runs.{first_of}
use Rattle.lists.proofs.Choice.{same_or, either-any, or_else-left, or_else-right}
use Rattle.answers.specs.Answers.{done, tables_length, empty_screen, no_size, image_length}
use Rattle.profiles.specs.Profile.{bits_of}
use Rattle.words.specs.Fields.{width_of, height_of}
use Rattle.words.specs.Check.{reserved_at, kind_at, screen_of, check_of}
use Rattle.words.proofs.CheckLaws.{check-let}
use Rattle.words.proofs.PictureLaws.{no_floats}
use Rattle.tables.specs.Geometry.{tables_len}
use Rattle.paint.specs.Painted.{Painted, answered}
use Rattle.frames.specs.Frame.{size_refusal, output_refusal, tables_refusal, pictures_refusal, paint_refusal, refusal_of}
use Rattle.frames.specs.Frame.{frame_after}
use Rattle.words.specs.Image.{words_of}
use Rattle.host.specs.Host.{profile_for, scene_in, host_answer, host_output}

-- ---- the cases

module _ (image : List ℕ) (frame : ℕ) (tables pictures out : List ℕ) where
  pub host-length : (length image ≡ 208 → ⊥)
      → (image_length ≡ host_answer image frame tables pictures out) × (out ≡ host_output image frame tables pictures out)
  unfolding host_output host_answer
  host-length ne = (rw (ne_eqb _ _ ne), rw (ne_eqb _ _ ne))

  module _ (long : length image ≡ 208) where
    checked : (a : ℕ) → a ≡ check_of false (words_of image)
        → host_answer image frame tables pictures out
        ≡ or_else a (refusal_of (scene_in image frame tables pictures) 0 8 out)
    unfolding host_answer
    checked a e = rw (eq-eqb _ _ long, ← e)

    pub host-refused : (a : ℕ) → a ≡ check_of false (words_of image) → (a ≡ 0 → ⊥)
        → (a ≡ host_answer image frame tables pictures out) × (out ≡ host_output image frame tables pictures out)
    unfolding host_output
    host-refused a e ne =
        let q : host_answer image frame tables pictures out ≡ a = checked a e ∙ rw (ne_eqb a 0 ne) in
        (sym q, rw (q, ne_eqb a 0 ne))

    pub host-painted : (a : ℕ) (p : Painted) (out' : List ℕ) → a ≡ check_of false (words_of image) → a ≡ 0
        → (errors : ℕ) → p ≡ answered (refusal_of (scene_in image frame tables pictures) 0 8 out) errors
        → out' ≡ frame_after (scene_in image frame tables pictures) out
        → (p.answer ≡ host_answer image frame tables pictures out) × (out' ≡ host_output image frame tables pictures out)
    unfolding host_output frame_after
    host-painted a p out' e z errors f g =
        let q : host_answer image frame tables pictures out
        ≡ refusal_of (scene_in image frame tables pictures) 0 8 out = checked a e ∙ rw (eq-eqb a 0 z) in
        (ap (λ (r : Painted). r.answer) f ∙ sym q, rw q g)

-- ---- "Order 16, 7, 8, 9 and 10, 11, 13, 6, 14.": after the check a frame is refused by 13, 6, 14 alone

-- words that pass have a size
pub check-sized : (w : List ℕ) → check_of false w ≡ 0 → size_refusal w ≡ 0
unfolding check_of screen_of
check-sized w e =
    sized (eqb (width_of w) 0) (eqb (height_of w) 0)
    (or_else-left (screen_of w) _ (or_else-right (first_of 8 (kind_at false w)) _ (or_else-right (first_of 52 (reserved_at w)) _ e)))
  where
    sized : (s t : Bool) → pick s empty_screen (pick t empty_screen done) ≡ 0 → pick (either s t) no_size done ≡ 0
    sized true t e = absurd (let z : ⊥ = omega arith in z)
    sized false true e = absurd (let z : ⊥ = omega arith in z)
    sized false false e = refl

-- "6 compares .. in the host entry with both"
pub host-tables : (n : ℕ) → tables_refusal (bits_of (profile_for n)) n
    ≡ pick (either (eqb n (tables_len 1)) (eqb n (tables_len 2))) done tables_length
host-tables n = go (eqb n (tables_len 2)) (eqb n (tables_len 1)) refl refl
  where
    go : (s t : Bool) → eqb n (tables_len 2) ≡ s → eqb n (tables_len 1) ≡ t
        → pick (eqb n (tables_len (pick s 2 1))) done tables_length ≡ pick (either t s) done tables_length
    go true t p q = rw (p, either-any t)
    go false true p q = rw q
    go false false p q = rw q

pub host-order : (image : List ℕ) (frame : ℕ) (tables pictures out : List ℕ) → length image ≡ 208
    → check_of false (words_of image) ≡ 0
    → host_answer image frame tables pictures out
    ≡ or_else (output_refusal (words_of image) (length out))
    (or_else (tables_refusal (bits_of (profile_for (length tables))) (length tables))
    (pictures_refusal (words_of image) (length pictures)))
unfolding paint_refusal
host-order image frame tables pictures out long e =
    checked image frame tables pictures out long 0 (sym e)
    ∙ rw (check-sized (words_of image) e, no_floats (words_of image) (check-let (words_of image) false e))
    (ap (λ (n : ℕ). or_else (output_refusal (words_of image) (length out))
    (or_else (tables_refusal (bits_of (profile_for (length tables))) (length tables)) n))
    (or_else-done (pictures_refusal (words_of image) (length pictures))))
  where
    or_else-done : (a : ℕ) → or_else a 0 ≡ a
    or_else-done a = ⊎_elim (λ (z : a ≡ 0). rw z) (λ (ne : a ≡ 0 → ⊥). rw (ne_eqb a 0 ne)) (same_or a 0)
