-- "fill, then the layers below any depth, then the rest, is one painting, frame and state". Assumes
-- nothing.
use mathlib.Core.Path.{◌≡◌, sym, ap, ◌∙◌}
use mathlib.Core.List.{List}
use Prim.Native.Nat.{ℕ, ◌≤◌}
use native.Mathlib.Omega.{arith}
use borrow.Author.Tests.{eq-eqb}
use lib.Ieee.{Float}
use lib.ListN.{length}
use Rattle.answers.specs.Answers.{done}
use Rattle.frames.specs.Scene.{Scene}
use Rattle.frames.specs.Band.{band_of, errors_of}
use Rattle.frames.specs.Frame as painting
use Rattle.frames.proofs.CallerLaws.{length-band_of, length-fill_of, fill_is}
use Rattle.display.specs.declared.Display.{Display}
use Rattle.display.specs.State.{told, with_errors}
use Rattle.display.proofs.Calls.{frame-fill-paint}
use Rattle.display.specs.Paint.{scene_with, fill_told, fill_bytes, paint_told, paint_bytes, frame_told, frame_bytes}
use Rattle.laws.specs.Painting.{Ready}
use Rattle.laws.proofs.Bands.{band_of-split, errors_of-split}
use Rattle.laws.proofs.Pixels.{ready-done}

-- ---- what a band that is not refused leaves

module _ (d : Display) (tables pictures : List ℕ) (floats : List Float) (ready : Ready (scene_with d tables pictures floats)) where
  abbrev s : Scene
  s = scene_with d tables pictures floats

  module _ (a b : ℕ) (out : List ℕ) (ab : a ≤ b) (b8 : b ≤ 8) (long : length out ≡ painting.frame_len d.active) where
    fits : painting.refusal_of s a b out ≡ done
    fits = ready-done s a b out ready ab b8 long

    pub paint_bytes_lem : paint_bytes d a b tables pictures floats out ≡ band_of s a b out
    unfolding paint_bytes painting.paint_after
    paint_bytes_lem = rw (eq-eqb _ 0 fits)

    pub paint-told : paint_told d a b tables pictures floats out ≡ told (with_errors d (errors_of s a b d.errors)) done
    unfolding paint_told painting.errors_after
    paint-told = rw fits

  -- the output after it is as long as before
  length-paint_bytes : (a b : ℕ) (out : List ℕ) → a ≤ b → b ≤ 8 → length out ≡ painting.frame_len d.active
      → length (paint_bytes d a b tables pictures floats out) ≡ painting.frame_len d.active
  length-paint_bytes a b out ab b8 long = ap length (paint_bytes_lem a b out ab b8 long) ∙ length-band_of s a b out ∙ long

  -- a whole frame is not refused, and neither is its fill
  frame-done : (out : List ℕ) → length out ≡ painting.frame_len d.active
      → (frame_told d tables pictures floats out).answer ≡ done
  unfolding frame_told paint_told painting.errors_after
  frame-done out long = fits 0 8 out (omega arith) (omega arith) long

  length-filled : (out : List ℕ) → length out ≡ painting.frame_len d.active
      → length (fill_bytes d out) ≡ painting.frame_len d.active
  unfolding fill_bytes
  length-filled out long =
      ap length (fill_is s out (fits 0 8 out (omega arith) (omega arith) long)) ∙ length-fill_of d.active

-- ---- the laws

-- the band a..b and then b..c is the band a..c: bytes, answer and state
pub split-band : (d : Display) (tables pictures : List ℕ) (floats : List Float) (out : List ℕ) (a b c : ℕ)
    → Ready (scene_with d tables pictures floats)
    → length out ≡ painting.frame_len d.active
    → a ≤ b → b ≤ c → c ≤ 8
    → let low = (paint_told d a b tables pictures floats out).state in
    (paint_bytes low b c tables pictures floats (paint_bytes d a b tables pictures floats out)
    ≡ paint_bytes d a c tables pictures floats out)
    × (paint_told low b c tables pictures floats (paint_bytes d a b tables pictures floats out)
    ≡ paint_told d a c tables pictures floats out)
split-band d tables pictures floats out a b c ready long ab bc c8 =
    let s : Scene = scene_with d tables pictures floats in
    let low : Display = with_errors d (errors_of s a b d.errors) in
    let b8 : b ≤ 8 = omega arith in
    let ac : a ≤ c = omega arith in
    let long' = length-paint_bytes d tables pictures floats ready a b out ab b8 long in
    rw (paint-told d tables pictures floats ready a b out ab b8 long) (
      paint_bytes_lem low tables pictures floats ready b c (paint_bytes d a b tables pictures floats out) bc c8 long'
          ∙ ap (band_of s b c) (paint_bytes_lem d tables pictures floats ready a b out ab b8 long)
          ∙ band_of-split s a b c ab bc out ∙ sym (paint_bytes_lem d tables pictures floats ready a c out ac c8 long),
      paint-told low tables pictures floats ready b c (paint_bytes d a b tables pictures floats out) bc c8 long'
          ∙ ap (λ (e : ℕ). told (with_errors d e) done) (errors_of-split s a b c ab bc d.errors)
          ∙ sym (paint-told d tables pictures floats ready a c out ac c8 long),
    )

-- a fill, the band 0..k and the band k..8 are one whole frame: bytes, answer and state
pub split-frame : (d : Display) (tables pictures : List ℕ) (floats : List Float) (out : List ℕ) (k : ℕ)
    → Ready (scene_with d tables pictures floats)
    → length out ≡ painting.frame_len d.active → k ≤ 8
    → let filled = fill_bytes d out in
    let below = (fill_told d out).state in
    let low = (paint_told below 0 k tables pictures floats filled).state in
    let half = paint_bytes below 0 k tables pictures floats filled in
    (paint_bytes low k 8 tables pictures floats half ≡ frame_bytes d tables pictures floats out)
    × (paint_told low k 8 tables pictures floats half ≡ frame_told d tables pictures floats out)
unfolding fill_told
split-frame d tables pictures floats out k ready long k8 =
    let one = frame-fill-paint d tables pictures floats out (frame-done d tables pictures floats ready out long) in
    let full = length-filled d tables pictures floats ready out long in
    let two = split-band d tables pictures floats (fill_bytes d out) 0 k 8 ready full (omega arith) k8 (omega arith) in
    (two.0 ∙ sym one.0, two.1 ∙ sym one.1)
