-- The laws of boxes said of whole lines: a worker's rule and the tests that the code has passed give the
-- rule of the definition. Assumes nothing.
use mathlib.Core.Path.{◌≡◌, sym, ◌∙◌}
use mathlib.Core.Bool.{Bool, true, false}
use mathlib.Core.List.{List}
use Prim.Native.Nat.{ℕ, ◌+◌, ◌-◌, ◌/◌, ◌%◌, ◌≤◌, ◌<◌}
use Rattle.lists.specs.Tab.{each}
use Rattle.lists.proofs.Tab.{each-cong, each-id, each-then}
use Rattle.tables.specs.Geometry.{colours}
use Rattle.draw.specs.Instruction.{word_of}
use Rattle.draw.specs.Box.{box_after, box_of}
use Rattle.draw.specs.Engine.Rows.{run_after, whole_of}
use Rattle.boxes.proofs.BoxLaws.{box-past, box-above, box-below, box-whole, box-sides, whole-across}

module _ (x0 x1 y0 y1 k colour v : ℕ) (l : List ℕ) where
  pub line-past : x1 < x0 → l ≡ each (box_after x0 x1 y0 y1 k colour v) l
  line-past h = each-id _ l (box-past x0 x1 y0 y1 k colour v h)

  pub line-whole : (whole : Bool) {l' : List ℕ} → whole ≡ whole_of k (v - y0) (y1 - v) (x1 - x0) → whole ≡ true → y0 ≤ v
      → v ≤ y1
      → l' ≡ each (run_after x0 (x1 + 1) colour) l → l' ≡ each (box_after x0 x1 y0 y1 k colour v) l
  line-whole whole w t a b e = e ∙ each-cong _ _ l (box-whole x0 x1 y0 y1 k colour v a b (sym w ∙ t))

  pub line-sides : (whole : Bool) {l' l'' : List ℕ} → whole ≡ whole_of k (v - y0) (y1 - v) (x1 - x0) → whole ≡ false
      → x0 ≤ x1 → y0 ≤ v → v ≤ y1
      → l' ≡ each (run_after x0 (x0 + k) colour) l → l'' ≡ each (run_after (x1 + 1 - k) (x1 + 1) colour) l'
      → l'' ≡ each (box_after x0 x1 y0 y1 k colour v) l
  line-sides whole w f h a b e e' =
      let q : whole_of k (v - y0) (y1 - v) (x1 - x0) ≡ false = sym w ∙ f in
      each-then _ _ _ l e e' (box-sides x0 x1 y0 y1 k colour v a b q (whole-across _ _ _ _ q) h)

module _ (ins : List ℕ) (k v w2 : ℕ) (l : List ℕ) (e2 : w2 ≡ word_of ins k 2) where
  pub box-line-above : v < w2 % 4096 → l ≡ each (box_of ins k v) l
  unfolding box_of
  box-line-above h = each-id _ l (λ u old. box-above _ _ _ _ _ _ v (rw e2 at h) u old)

  pub box-line-below : w2 / 4096 % 4096 < v → l ≡ each (box_of ins k v) l
  unfolding box_of
  box-line-below h = each-id _ l (λ u old. box-below _ _ _ _ _ _ v (rw e2 at h) u old)

  pub box-line : (w0 w3 : ℕ) {l' : List ℕ} → w0 ≡ word_of ins k 0 → w3 ≡ word_of ins k 3
      → l' ≡ each
      (box_after (w0 % 4096) (w0 / 4096 % 4096) (w2 % 4096) (w2 / 4096 % 4096) (w2 / 16777216 % 16)
      (w3 % 256 % colours) v) l → l' ≡ each (box_of ins k v) l
  unfolding box_of
  box-line w0 w3 e0 e3 e = e ∙ each-cong _ _ l (λ u old. rw (e0, e2, e3))
