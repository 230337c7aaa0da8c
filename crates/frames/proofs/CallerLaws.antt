-- What a caller may rely on, from the definitions of painting. Assumes nothing.
use mathlib.Core.Path.{◌≡◌, refl, sym, ap, ◌∙◌}
use mathlib.Core.Bool.{Bool, true, false}
use mathlib.Core.List.{List}
use Prim.Native.Nat.{ℕ, ◌-◌, ◌/◌, ◌%◌, ◌≤◌, ◌<◌}
use native.Mathlib.Omega.{arith}
use borrow.Author.Tests.{eqb-true, eqb-false, leb-true, eq-eqb}
use lib.Dec.{eqb, leb}
use lib.ListN.{length, get_or}
use Rattle.lists.specs.Choice.{pick, choose, both}
use Rattle.lists.specs.Tab.{each}
use Rattle.lists.proofs.Choice.{both_left, both_right, either_left, refuses-not, lets-through, or_else-left}
use Rattle.lists.proofs.Choice.{or_else-right, or_else-none}
use Rattle.lists.proofs.Run.{run_none}
use Rattle.lists.proofs.Tab.{length-tab, get_d-tab, length-each, each-id}
use Rattle.profiles.specs.Profile.{bits_of}
use Rattle.words.specs.Fields.{shown_of, width_of, height_of, layer_of}
use Rattle.words.specs.Pictures.{pictures_len}
use Rattle.tables.specs.Geometry.{tables_len}
use Rattle.frames.specs.Scene.{Scene}
use Rattle.frames.specs.Pixel.{over_at}
use Rattle.frames.specs.Band.{layer_step, band_by, band_byte, band_of, mark_at, errors_of}
use Rattle.frames.specs.Frame.{band_refusal, size_refusal, frame_len, output_refusal, tables_refusal, pictures_refusal}
use Rattle.frames.specs.Frame.{fill_refusal, paint_refusal, refusal_of, fill_byte, fill_of, fill_after, paint_after, errors_after}
use Rattle.frames.specs.Frame.{frame_of, frame_after}

-- ---- what passes

-- the words, the band and the lengths that paint takes
pub record Fits (bits : ℕ) (w : List ℕ) (a b out tables pictures floats : ℕ) : Type 0 where
  pub low : a ≤ b
  pub high : b ≤ 8
  pub wide : 0 < width_of w
  pub long : out ≡ frame_len w
  pub lent : tables ≡ tables_len bits
  pub shown : pictures ≡ pictures_len false w
  pub flows : floats ≡ pictures_len true w

pub size-wide : (w : List ℕ) → size_refusal w ≡ 0 → 0 < width_of w
size-wide w e =
    let h : width_of w ≡ 0
    → ⊥ = eqb-false (width_of w) 0
    (either_left (eqb (width_of w) 0) (eqb (height_of w) 0) (refuses-not _ 11 0 e).0) in omega arith

pub paint-fits : (bits : ℕ) (w : List ℕ) (a b out tables pictures floats : ℕ)
    → paint_refusal bits w a b out tables pictures floats ≡ 0 → Fits bits w a b out tables pictures floats
unfolding paint_refusal
paint-fits bits w a b out tables pictures floats e =
    let band = lets-through (both (leb a b) (leb b 8)) 14 (or_else-left (band_refusal a b) _ e) in
    let p = or_else-right (band_refusal a b) _ e in
    let q = or_else-right (size_refusal w) _ p in
    let r = or_else-right (output_refusal w out) _ q in
    let t = or_else-right (tables_refusal bits tables) _ r in
    record {
      low = leb-true a b (both_left (leb a b) (leb b 8) band);
      high = leb-true b 8 (both_right (leb a b) (leb b 8) band);
      wide = size-wide w (or_else-left (size_refusal w) _ p);
      long = eqb-true _ _ (lets-through (eqb out (frame_len w)) 12 (or_else-left (output_refusal w out) _ q));
      lent = eqb-true _ _ (lets-through (eqb tables (tables_len bits)) 5 (or_else-left (tables_refusal bits tables) _ r));
      shown =
          eqb-true _ _ (lets-through (eqb pictures (pictures_len false w)) 13 (or_else-left (pictures_refusal w pictures) _ t));
      flows =
          eqb-true _ _ (lets-through (eqb floats (pictures_len true w)) 17 (or_else-right (pictures_refusal w pictures) _ t));
    }

pub fill-long : (w : List ℕ) (out : ℕ) → fill_refusal w out ≡ 0 → out ≡ frame_len w
unfolding fill_refusal
fill-long w out e = eqb-true _ _ (lets-through (eqb out (frame_len w)) 12 (or_else-right (size_refusal w) _ e))

-- ---- lengths

pub length-band_of : (s : Scene) (a b : ℕ) (out : List ℕ) → length (band_of s a b out) ≡ length out
unfolding band_of
length-band_of s a b out = go (shown_of s.words)
  where
    go : (t : Bool) → length (choose t (each (band_byte s a b) out) out) ≡ length out
    go true = length-each (band_byte s a b) out
    go false = refl

pub length-fill_of : (w : List ℕ) → length (fill_of w) ≡ frame_len w
unfolding fill_of
length-fill_of w = length-tab (frame_len w) (fill_byte w)

pub length-frame_of : (s : Scene) → length (frame_of s) ≡ frame_len s.words
unfolding frame_of
length-frame_of s = length-band_of s 0 8 (fill_of s.words) ∙ length-fill_of s.words

-- a frame that is refused or not keeps the output's length
pub length-frame_after : (s : Scene) (out : List ℕ) → length (frame_after s out) ≡ length out
unfolding frame_after
length-frame_after s out = go (eqb (refusal_of s 0 8 out) 0) (eqb-true _ _)
  where
    go : (t : Bool) → (t ≡ true → refusal_of s 0 8 out ≡ 0) → length (choose t (frame_of s) out) ≡ length out
    go true f = length-frame_of s ∙ sym (paint-fits _ _ _ _ _ _ _ _ (f refl)).long
    go false f = refl

-- ---- alpha

-- "Output alpha is always 255 once filled."
pub fill_of-alpha : (w : List ℕ) (i : ℕ) → i < frame_len w → i % 4 ≡ 3 → get_or (fill_of w) i 0 ≡ 255
unfolding fill_of fill_byte
fill_of-alpha w i h e = get_d-tab (frame_len w) _ i h ∙ rw (eq-eqb (i % 4) 3 e)

-- and a band leaves the alpha bytes
pub band_byte-alpha : (s : Scene) (a b i p : ℕ) → i % 4 ≡ 3 → band_byte s a b i p ≡ p
unfolding band_byte
band_byte-alpha s a b i p e = rw (eq-eqb (i % 4) 3 e)

-- ---- a band of no depth, and a layer that is off

band_by-none : (w : List ℕ) (step : ℕ → ℕ → ℕ) (a p : ℕ) → band_by w step a a p ≡ p
unfolding band_by
band_by-none w step a p = let q : a - a ≡ 0 = omega arith in rw q (run_none a _ p)

band_byte-none : (s : Scene) (a i p : ℕ) → band_byte s a a i p ≡ p
unfolding band_byte
band_byte-none s a i p = go (eqb (i % 4) 3)
  where
    go : (t : Bool)
        → pick t p
        (band_by s.words (over_at s (i / 4 / width_of s.words) (i / 4 % width_of s.words) (i % 4)) a a p) ≡ p
    go true = refl
    go false = band_by-none s.words _ a p

pub band_of-none : (s : Scene) (a : ℕ) (out : List ℕ) → band_of s a a out ≡ out
unfolding band_of
band_of-none s a out = go (shown_of s.words)
  where
    go : (t : Bool) → choose t (each (band_byte s a a) out) out ≡ out
    go true = sym (each-id (band_byte s a a) out (λ i p. band_byte-none s a i p))
    go false = refl

pub errors_of-none : (s : Scene) (a errors : ℕ) → errors_of s a a errors ≡ errors
unfolding errors_of
errors_of-none s a errors = go (shown_of s.words)
  where
    go : (t : Bool) → pick t (band_by s.words (mark_at s) a a errors) errors ≡ errors
    go true = band_by-none s.words (mark_at s) a errors
    go false = refl

pub layer_step-off : (w : List ℕ) (step : ℕ → ℕ → ℕ) (d n p : ℕ) → (layer_of w n).on ≡ false → layer_step w step d n p ≡ p
unfolding layer_step
layer_step-off w step d n p e = rw e

-- ---- a frame is a fill and band 0..8

paint-fill : (bits : ℕ) (w : List ℕ) (a b out tables pictures floats : ℕ)
    → paint_refusal bits w a b out tables pictures floats ≡ 0 → fill_refusal w out ≡ 0
unfolding paint_refusal fill_refusal
paint-fill bits w a b out tables pictures floats e =
    let p = or_else-right (band_refusal a b) _ e in
    let q = or_else-right (size_refusal w) _ p in
    or_else-none (size_refusal w) (output_refusal w out) (or_else-left (size_refusal w) _ p)
    (or_else-left (output_refusal w out) _ q)

module _ (s : Scene) (out : List ℕ) (e : refusal_of s 0 8 out ≡ 0) where
  pub fill_is : fill_after s.words out ≡ fill_of s.words
  unfolding fill_after
  fill_is = rw (eq-eqb _ 0 (paint-fill _ _ _ _ _ _ _ _ e))

  -- the filled output is as long, so it passes as well
  again : refusal_of s 0 8 (fill_of s.words) ≡ 0
  again =
      ap (λ (n : ℕ). paint_refusal (bits_of s.profile) s.words 0 8 n (length s.tables) (length s.pictures)
      (length s.floats))
      (length-fill_of s.words ∙ sym (paint-fits _ _ _ _ _ _ _ _ e).long) ∙ e

  pub frame_after-is : frame_after s out ≡ paint_after s 0 8 (fill_after s.words out)
  unfolding frame_after frame_of paint_after
  frame_after-is = rw (fill_is, eq-eqb _ 0 e, eq-eqb _ 0 again)

  -- the answer and the error word, too, are the band's over a filled output
  pub refusal_of-is : refusal_of s 0 8 out ≡ refusal_of s 0 8 (fill_after s.words out)
  refusal_of-is = rw (fill_is, e, again)

  pub errors_after-is : (errors : ℕ) → errors_after s 0 8 out errors ≡ errors_after s 0 8 (fill_after s.words out) errors
  unfolding errors_after
  errors_after-is errors = rw (fill_is, e, again)
