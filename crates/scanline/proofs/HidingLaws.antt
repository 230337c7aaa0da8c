-- A layer that takes up a whole line and is opaque all along it hides what is under it: painting from that layer on is
-- painting from the first one on. Assumes nothing.
use mathlib.Core.Path.{◌≡◌, refl, sym, ap, ◌∙◌}
use mathlib.Core.List.{List}
use Prim.Native.Nat.{ℕ, ◌+◌, ◌-◌, ◌*◌, ◌/◌, ◌%◌, ◌<◌}
use native.Mathlib.Omega.{arith}
use borrow.Author.Tests.{eq-eqb, eqb-true}
use lib.Dec.{eqb}
use lib.ListN.{length, get_or, take}
use Rattle.lists.specs.Choice.{pick}
use Rattle.lists.specs.Tab.{each}
use Rattle.lists.proofs.Choice.{pick-cong}
use Rattle.lists.proofs.Tab.{length-each, get_d-each, is-each}
use Rattle.lists.proofs.Steps.{through-id}
use Rattle.mix.proofs.BlendLaws.{blend_of-opaque}
use Rattle.words.specs.declared.fields.Layer.{Layer}
use Rattle.words.specs.Fields.{width_of, layer_of}
use Rattle.span.specs.Engine.Laid.{Opaque}
use Rattle.frames.specs.Scene.{Scene}
use Rattle.frames.specs.Pixel.{own_at, faded_of, alpha_at, over_at}
use Rattle.frames.proofs.PixelLaws.{Covered, over-inside}
use Rattle.plan.specs.declared.Step.{Step}
use Rattle.plan.specs.Engine.Plan.{OfLayer}
use Rattle.scanline.specs.Engine.Lines.{OnRow, OfLine, OpaqueOver, line_byte, line_to}
use Rattle.scanline.proofs.LineLaws.{line-next, step-whole}

-- layer n takes up the whole line y, and its alpha comes to 255 at every pixel of it
pub record Hiding (s : Scene) (y n : ℕ) : Type 0 where
  pub covered : (x : ℕ) → x < width_of s.words → Covered (layer_of s.words n) y x
  pub full : (x : ℕ) → x < width_of s.words
      → alpha_at s n (y - (layer_of s.words n).y) (x - (layer_of s.words n).x) ≡ 255

module _ (s : Scene) (y : ℕ) where
  -- layers leave the alpha bytes
  alpha-kept : (l : List ℕ) (k i p : ℕ) → i % 4 ≡ 3 → line_to s y l k i p ≡ p
  unfolding line_to line_byte
  alpha-kept l k i p h = through-id _ (take k l) p (λ n q. rw (eq-eqb (i % 4) 3 h))

  module _ (n : ℕ) (h : Hiding s y n) where
    -- a channel under it is not looked at
    channel-hidden : (x c p q : ℕ) → x < width_of s.words → over_at s y x c n p ≡ over_at s y x c n q
    channel-hidden x c p q lt = shown p ∙ sym (shown q)
      where
        shown : (r : ℕ) → over_at s y x c n r
            ≡ own_at s n (y - (layer_of s.words n).y) (x - (layer_of s.words n).x) c
        shown r = over-inside s x y c n r (h.covered x lt) ∙ rw (h.full x lt) (blend_of-opaque _ r)

    byte-hidden : (i p q : ℕ) → i < 4 * width_of s.words → (i % 4 ≡ 3 → p ≡ q) → line_byte s y n i p ≡ line_byte s y n i q
    unfolding line_byte
    byte-hidden i p q lt same =
        pick-cong (eqb (i % 4) 3) (λ t. same (eqb-true _ _ t))
        (λ t. channel-hidden (i / 4) (i % 4) p q (omega arith))

    -- over two lines that agree in their alpha bytes it is the same line
    pub line-hidden : (line line' : List ℕ) → OfLine s line → OfLine s line'
        → ((i : ℕ) → i < length line → i % 4 ≡ 3 → get_or line i 0 ≡ get_or line' i 0)
        → each (line_byte s y n) line ≡ each (line_byte s y n) line'
    line-hidden line line' long long' same =
        is-each line' _ (line_byte s y n) (length-each _ line ∙ long ∙ sym long')
        (λ i lt.
        let b : i < length line = omega arith in
        get_d-each (line_byte s y n) line i b ∙ byte-hidden i _ _ (omega arith) (same i b))

    -- the first k layers of l and then that layer, over a line, are that layer over the line
    pub layers-hidden : (l : List ℕ) (k : ℕ) (line : List ℕ) → OfLine s line → k < length l → n ≡ get_or l k 0
        → each (line_to s y l (k + 1)) line ≡ each (line_byte s y n) line
    layers-hidden l k line long lt e =
        sym (line-next s y l (each (line_to s y l k) line) _ line k n lt e refl refl)
        ∙ line-hidden _ line (length-each _ line ∙ long) long
        (λ i b m. get_d-each (line_to s y l k) line i (omega (arith, length-each (line_to s y l k) line))
        ∙ alpha-kept l k i _ m)

-- ---- the same of a step, whose row is a run that was laid

-- each pixel of the run at its own alpha
pub opaque-own : (run : List ℕ) → Opaque run → (u : ℕ) → u < length run / 4 → get_or run (4 * u + 3) 0 ≡ 255
opaque-own run o u h = let q : 4 * u + 3 ≡ 0 + 4 * u + 3 = omega arith in ap (λ (i : ℕ). get_or run i 0) q ∙ o.all u h

module _ (s : Scene) (y : ℕ) (t : Step) (m : OfLayer s t) (r : OnRow t y) (src : List ℕ)
    (own : (u c : ℕ) → u < t.wide → c < 4 → get_or src (4 * u + c) 0 ≡ own_at s t.number (y - t.layer.y) u c) where
  module _ (whole : t.wide ≡ width_of s.words)
      (opaque : (u : ℕ) → u < t.wide → pick t.layer.global t.alpha (get_or src (4 * u + 3) 0) ≡ 255) where
    alpha-full : (u : ℕ) → u < t.wide → alpha_at s t.number (y - (layer_of s.words t.number).y) u ≡ 255
    unfolding alpha_at
    alpha-full u lt =
        let l = layer_of s.words t.number in
        ap (pick l.global (faded_of s.frame l))
        (sym (own u 3 lt (omega arith) ∙ ap (λ (l : Layer). own_at s t.number (y - l.y) u 3) m.layer))
        ∙ (rw (m.layer, m.alpha) at (opaque u lt))

    step-hides : Hiding s y t.number
    step-hides = record {
      covered = λ x lt. record {
        left = omega (arith, m.wide);
        right = omega (arith, m.wide);
        top = rw m.layer at r.top;
        bottom = rw m.layer at r.bottom;
      };
      full = λ x lt. alpha-full _ (omega (arith, m.wide));
    }

  pub step-hiding : (line line' : List ℕ) → 4 * t.wide ≡ length line → length src ≡ length line
      → OpaqueOver src t.layer.global t.alpha line line' → OfLine s line
      → (l : List ℕ) (k : ℕ) → k < length l → t.number ≡ get_or l k 0 → line' ≡ each (line_to s y l (k + 1)) line
  step-hiding line line' whole long o of l k lt e =
      step-whole s y t m r src own line line' of whole o.over
      ∙ sym (layers-hidden s y t.number
      (step-hides (omega arith) (λ u b. o.opaque u (omega arith))) l k line of lt e)
