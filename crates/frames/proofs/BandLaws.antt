-- Going through the band's layers in the order of painting is the fold over depths and layers.
-- Assumes nothing.
use mathlib.Core.Path.{◌≡◌, refl, ap, ◌∙◌}
use mathlib.Core.Bool.{Bool, true, false}
use mathlib.Core.Logic.{◌⊎◌, inl, inr, ⊎_elim}
use mathlib.Core.List.{List, [], ◌∷◌}
use Prim.Native.Nat.{ℕ, zero, suc, ◌+◌, ◌≤◌, ◌<◌}
use native.Mathlib.Omega.{arith}
use borrow.Author.Tests.{eqb-true, le-leb, lt-leb, lt-ltb, le-ltb}
use lib.Dec.{leb}
use Rattle.lists.specs.Choice.{pick, choose}
use Rattle.lists.specs.Runs.{run}
use Rattle.lists.specs.Steps.{through}
use Rattle.lists.proofs.Choice.{both_right, both-none, pick-cong}
use Rattle.lists.proofs.Run.{run-id, run-cong, run-part}
use Rattle.lists.proofs.Steps.{through-none, through-one, through-append, through-keep}
use Rattle.words.specs.declared.fields.Layer.{Layer}
use Rattle.words.specs.Fields.{layer_of}
use Rattle.words.specs.Order.{here, layers_at, layers_below, order_of, within, band_layers}
use Rattle.frames.specs.Band.{layer_step, depth_step, band_by}

-- ---- the order's list as a fold

through-pick : (step : ℕ → ℕ → ℕ) (t : Bool) (n p : ℕ) → through step (choose t (n ∷ []) []) p ≡ pick t (step n p) p
through-pick step true n p = through-one step n p
through-pick step false n p = through-none step p

module _ (w : List ℕ) (step : ℕ → ℕ → ℕ) where
  through-layers_at : (d k p : ℕ) → through step (layers_at w d k) p ≡ run 0 k (layer_step w step d) p
  unfolding layers_at run layer_step
  through-layers_at d zero p = through-none step p
  through-layers_at d (suc k) p =
      let q : 0 + k ≡ k = omega arith in
      rw q (through-append step (layers_at w d k) _ p ∙ through-pick step (here (layer_of w k) d) k _
      ∙ ap (λ (z : ℕ). pick (here (layer_of w k) d) (step k z) z) (through-layers_at d k p))

  through-layers_below : (d p : ℕ) → through step (layers_below w d) p ≡ run 0 d (depth_step w step) p
  unfolding layers_below run depth_step
  through-layers_below zero p = through-none step p
  through-layers_below (suc d) p =
      let q : 0 + d ≡ d = omega arith in
      rw q (through-append step (layers_below w d) _ p ∙ through-layers_at d 8 _
      ∙ ap (run 0 8 (layer_step w step d)) (through-layers_below d p))

-- ---- only the band's depths

module _ (w : List ℕ) (step : ℕ → ℕ → ℕ) (a b : ℕ) where
  abbrev band_step : ℕ → ℕ → ℕ
  band_step n p = pick (within a b (layer_of w n)) (step n p) p

  -- an enabled layer of depth d is of the band where d is
  here-depth : (l : Layer) (d : ℕ) → here l d ≡ true → l.depth ≡ d
  here-depth l d e = eqb-true _ _ (both_right l.on _ e)

  layer-in : (d n p : ℕ) → a ≤ d → d < b → layer_step w band_step d n p ≡ layer_step w step d n p
  unfolding layer_step
  layer-in d n p lo hi =
      pick-cong (here (layer_of w n) d)
      (λ t. let e : (layer_of w n).depth ≡ d = here-depth (layer_of w n) d t in rw (e, le-leb a d lo, lt-ltb d b hi))
      (λ t. refl)

  layer-out : (d n p : ℕ) → (d < a) ⊎ (b ≤ d) → layer_step w band_step d n p ≡ p
  unfolding layer_step
  layer-out d n p o = go (here (layer_of w n) d) (here-depth (layer_of w n) d)
    where
      go : (t : Bool) → (t ≡ true → (layer_of w n).depth ≡ d) → pick t (band_step n p) p ≡ p
      go true f = let e = f refl in ⊎_elim
          (λ (lt : d < a). rw (e, lt-leb a d lt))
          (λ (ge : b ≤ d). rw (e, le-ltb d b ge, both-none (leb a d)))
          o
      go false f = refl

  pub band-through : (p : ℕ) → a ≤ b → b ≤ 8 → through step (band_layers w a b) p ≡ band_by w step a b p
  unfolding band_layers order_of band_by depth_step
  band-through p ab b8 =
      through-keep (λ n. within a b (layer_of w n)) step (layers_below w 8) p ∙ through-layers_below w band_step 8 p
      ∙ run-part 8 a b (depth_step w band_step) (depth_step w step) p ab b8
      (λ d q lt. run-id 0 8 (layer_step w band_step d) q (λ n z v. layer-out d n z (inl lt)))
      (λ d q ge. run-id 0 8 (layer_step w band_step d) q (λ n z v. layer-out d n z (inr ge)))
      (λ d q lo hi. run-cong 0 8 (layer_step w band_step d) (layer_step w step d) q (λ n z v. layer-in d n z lo hi))
