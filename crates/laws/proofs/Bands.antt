-- Laws of a band: the fold over depths and layers with any step. Assumes nothing.
use mathlib.Core.Path.{◌≡◌, sym, ◌∙◌}
use mathlib.Core.List.{List}
use Prim.Native.Nat.{ℕ, ◌+◌, ◌-◌, ◌/◌, ◌%◌, ◌≤◌, ◌<◌}
use native.Mathlib.Omega.{arith}
use borrow.Author.Tests.{eq-eqb, eqb-true}
use lib.Dec.{eqb}
use Rattle.lists.specs.Tab.{each}
use Rattle.lists.proofs.Choice.{pick-keeps, pick-twice, pick_other, choose-twice, both_left, both_false}
use Rattle.lists.proofs.Run.{run-keeps, run-id, run-cong, run-split, run-forgets, run_only}
use Rattle.lists.proofs.Tab.{each-each, each-cong}
use Rattle.words.specs.Check.{Accepted}
use Rattle.words.specs.Fields.{shown_of, width_of, layer_of}
use Rattle.words.specs.Order.{here}
use Rattle.frames.specs.Scene.{Scene}
use Rattle.frames.specs.Pixel.{over_at}
use Rattle.frames.specs.Band.{layer_step, depth_step, band_by, pixel_at, band_byte, band_of, mark_at, errors_of}
use Rattle.laws.specs.Painting.{IsLayer}

-- ---- with any step

-- a band and the band above it are the band of both
pub band_by-split : (w : List ℕ) (step : ℕ → ℕ → ℕ) (a b c p : ℕ) → a ≤ b → b ≤ c
    → band_by w step b c (band_by w step a b p) ≡ band_by w step a c p
unfolding band_by
band_by-split w step a b c p h k =
    let q : a + (b - a) ≡ b = omega arith in
    let r : b - a + (c - b) ≡ c - a = omega arith in
    rw (q, r) at (run-split a (b - a) (c - b) (depth_step w step) p)

-- what the step of every layer keeps
pub band_by-keeps : (P : ℕ → Type 0) (w : List ℕ) (step : ℕ → ℕ → ℕ) (a b p : ℕ)
    → ((n q : ℕ) → IsLayer w n → P q → P (step n q)) → P p → P (band_by w step a b p)
unfolding band_by depth_step layer_step
band_by-keeps P w step a b p h z =
    run-keeps P a (b - a) _ p (λ d q v pq. run-keeps P 0 8 _ q
    (λ n r u pr. pick-keeps P (here (layer_of w n) d) (step n r) r
    (λ t. h n r (record { number = omega arith; on = both_left _ _ t }) pr) (λ f. pr)) pq) z

-- the same steps, layer by layer
pub band_by-cong : (w w' : List ℕ) (step step' : ℕ → ℕ → ℕ) (a b p : ℕ)
    → ((d n q : ℕ) → n < 8 → layer_step w step d n q ≡ layer_step w' step' d n q)
    → band_by w step a b p ≡ band_by w' step' a b p
unfolding band_by depth_step
band_by-cong w w' step step' a b p h =
    run-cong a (b - a) _ _ p (λ d q v. run-cong 0 8 _ _ q (λ n r u. h d n r (omega arith)))

-- the one layer of its depth
pub depth_step-only : (w : List ℕ) (step : ℕ → ℕ → ℕ) (n d p : ℕ) → Accepted w → IsLayer w n → (layer_of w n).depth ≡ d
    → depth_step w step d p ≡ step n p
unfolding depth_step layer_step
depth_step-only w step n d p a l e =
    run_only 0 8 n (layer_step w step d) p (omega (arith, l.number))
    (λ m q v ne. rw (both_false (layer_of w m).on (eqb (layer_of w m).depth d)
    (λ om dm. ne (a.apart m n (omega arith) l.number om l.on (eqb-true _ _ dm ∙ sym e)))))
    ∙ rw (l.on, eq-eqb (layer_of w n).depth d e)

-- a depth without a layer
pub depth_step-none : (w : List ℕ) (step : ℕ → ℕ → ℕ) (d p : ℕ)
    → ((m : ℕ) → IsLayer w m → (layer_of w m).depth ≡ d → ⊥) → depth_step w step d p ≡ p
unfolding depth_step layer_step
depth_step-none w step d p h =
    run-id 0 8 (layer_step w step d) p (λ m q v. rw (both_false (layer_of w m).on (eqb (layer_of w m).depth d)
    (λ om dm. h m (record { number = omega arith; on = om }) (eqb-true _ _ dm))))

-- what is under a depth whose step does not look at it is forgotten
pub band_by-forgets : (w w' : List ℕ) (step step' : ℕ → ℕ → ℕ) (a b d p p' : ℕ) → a ≤ d → d < b
    → ((q q' : ℕ) → depth_step w step d q ≡ depth_step w' step' d q')
    → ((e n q : ℕ) → d < e → n < 8 → layer_step w step e n q ≡ layer_step w' step' e n q)
    → band_by w step a b p ≡ band_by w' step' a b p'
unfolding band_by depth_step
band_by-forgets w w' step step' a b d p p' lo hi c h =
    run-forgets a (b - a) d _ _ p p' (omega arith) c (λ e q l r. run-cong 0 8 _ _ q (λ n z u. h e n z l (omega arith)))

-- ---- two bands, one after the other, on the bytes and on the error word

module _ (s : Scene) (a b c : ℕ) (h : a ≤ b) (k : b ≤ c) where
  band_byte-split : (i p : ℕ) → band_byte s b c i (band_byte s a b i p) ≡ band_byte s a c i p
  unfolding band_byte
  band_byte-split i p =
      let x : ℕ = i / 4 % width_of s.words in
      let y : ℕ = i / 4 / width_of s.words in
      pick_other (eqb (i % 4) 3) (pixel_at s y x (i % 4) b c) _ _ p
      (band_by-split s.words (over_at s y x (i % 4)) a b c p h k)

  pub band_of-split : (out : List ℕ) → band_of s b c (band_of s a b out) ≡ band_of s a c out
  unfolding band_of
  band_of-split out =
      choose-twice (shown_of s.words) (each (band_byte s b c)) _ _ out
      (each-each (band_byte s a b) (band_byte s b c) out ∙ each-cong _ _ out band_byte-split)

  pub errors_of-split : (e : ℕ) → errors_of s b c (errors_of s a b e) ≡ errors_of s a c e
  unfolding errors_of
  errors_of-split e =
      pick-twice (shown_of s.words) (band_by s.words (mark_at s) b c) _ _ e
      (band_by-split s.words (mark_at s) a b c e h k)
