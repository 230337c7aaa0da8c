-- A row of a box is nothing, one run, or a run at each side. Assumes nothing.
use mathlib.Core.Path.{◌≡◌, refl, sym, ◌∙◌}
use mathlib.Core.Bool.{Bool, true, false}
use mathlib.Core.Logic.{⊎_elim}
use Prim.Native.Nat.{ℕ, ◌+◌, ◌-◌, ◌*◌, ◌≤◌, ◌<◌}
use native.Mathlib.Omega.{arith}
use lib.Dec.{ltb, eqb}
use borrow.Author.Tests.{le-leb, lt-leb, lt-ltb, le-ltb, ltb-true, ltb-false}
use Rattle.lists.specs.Choice.{pick, either}
use Rattle.lists.proofs.Choice.{split, both-none, either-any, either_left, either-right}
use Rattle.draw.specs.Box.{near, drawn, box_after}
use Rattle.draw.specs.Engine.Rows.{run_after, whole_of}
use Rattle.draw.proofs.RunLaws.{run_in, run-left, run-right}

-- the tests of a whole row and of a pixel are the same but for the last: the outlines meet, w, so
-- that the pixel is near a side, n
whole→drawn : (z n t w : Bool) → either z (either t w) ≡ true → (w ≡ true → n ≡ true) → either z (either n t) ≡ true
whole→drawn true n t w e f = refl
whole→drawn false true t w e f = refl
whole→drawn false false true w e f = refl
whole→drawn false false false w e f = f e

near-left : (k x0 x1 u : ℕ) → u - x0 < k → near k x0 x1 u ≡ true
near-left k x0 x1 u h = simp (lt-ltb (u - x0) k h)

near-right : (k x0 x1 u : ℕ) → x1 - u < k → near k x0 x1 u ≡ true
near-right k x0 x1 u h = simp (lt-ltb (x1 - u) k h, either-any)

near-meets : (k x0 x1 u : ℕ) → x1 - x0 < 2 * k → x0 ≤ u → u ≤ x1 → near k x0 x1 u ≡ true
near-meets k x0 x1 u h a b = ⊎_elim
    (λ (l : u - x0 < k). near-left k x0 x1 u l)
    (λ (g : k ≤ u - x0). near-right k x0 x1 u (omega arith))
    (split (u - x0) k)

module _ (x0 x1 y0 y1 k colour v : ℕ) where
  box-left : (u old : ℕ) → u < x0 → box_after x0 x1 y0 y1 k colour v u old ≡ old
  unfolding box_after
  box-left u old h = simp (lt-leb x0 u h)

  box-right : (u old : ℕ) → x1 < u → box_after x0 x1 y0 y1 k colour v u old ≡ old
  unfolding box_after
  box-right u old h = simp (lt-leb u x1 h, both-none)

  -- "start past end draws nothing"
  pub box-past : x1 < x0 → (u old : ℕ) → box_after x0 x1 y0 y1 k colour v u old ≡ old
  box-past h u old = ⊎_elim (box-left u old) (λ (g : x0 ≤ u). box-right u old (omega arith)) (split u x0)

  pub box-above : v < y0 → (u old : ℕ) → box_after x0 x1 y0 y1 k colour v u old ≡ old
  unfolding box_after
  box-above h u old = simp (lt-leb y0 v h, both-none)

  pub box-below : y1 < v → (u old : ℕ) → box_after x0 x1 y0 y1 k colour v u old ≡ old
  unfolding box_after
  box-below h u old = simp (lt-leb v y1 h, both-none)

  -- ---- a row that the box has

  module _ (from : y0 ≤ v) (to : v ≤ y1) where
    box_in_lem : (u old : ℕ) → x0 ≤ u → u ≤ x1
        → box_after x0 x1 y0 y1 k colour v u old ≡ pick (drawn x0 x1 y0 y1 k v u) colour old
    unfolding box_after
    box_in_lem u old a b = simp (le-leb y0 v from, le-leb v y1 to, le-leb x0 u a, le-leb u x1 b)

    pub box-whole : whole_of k (v - y0) (y1 - v) (x1 - x0) ≡ true → (u old : ℕ)
        → run_after x0 (x1 + 1) colour u old ≡ box_after x0 x1 y0 y1 k colour v u old
    unfolding whole_of
    box-whole e u old = ⊎_elim
        (λ (l : u < x0). run-left x0 (x1 + 1) colour u old l ∙ sym (box-left u old l))
        (λ (g : x0 ≤ u). ⊎_elim
        (λ (l : u < x1 + 1).
        let d : drawn x0 x1 y0 y1 k v u ≡ true =
        whole→drawn (eqb k 0) (near k x0 x1 u) (near k y0 y1 v) (ltb (x1 - x0) (2 * k)) e
        (λ w. near-meets k x0 x1 u (ltb-true _ _ w) g (omega arith)) in
        run_in x0 (x1 + 1) colour u old g l ∙ sym (box_in_lem u old g (omega arith) ∙ rw d))
        (λ (r : x1 + 1 ≤ u). run-right x0 (x1 + 1) colour u old r ∙ sym (box-right u old (omega arith)))
        (split u (x1 + 1)))
        (split u x0)

    -- of a row that is not whole, what is near the left or the right side is drawn
    box-near : (u old : ℕ) → x0 ≤ u → u ≤ x1 → near k x0 x1 u ≡ true → box_after x0 x1 y0 y1 k colour v u old ≡ colour
    box-near u old a b n = box_in_lem u old a b ∙ rw n (simp either-any)

    box-far : (u old : ℕ) → x0 ≤ u → u ≤ x1 → whole_of k (v - y0) (y1 - v) (x1 - x0) ≡ false → k ≤ u - x0 → k ≤ x1 - u
        → box_after x0 x1 y0 y1 k colour v u old ≡ old
    unfolding whole_of
    box-far u old a b e l r =
        let w = ltb (x1 - x0) (2 * k) in
        let z : eqb k 0 ≡ false = either_left (eqb k 0) (either (near k y0 y1 v) w) e in
        let t : near k y0 y1 v
        ≡ false = either_left (near k y0 y1 v) w (either-right (eqb k 0) (either (near k y0 y1 v) w) e) in
        box_in_lem u old a b ∙ rw (z, le-ltb (u - x0) k l, le-ltb (x1 - u) k r, t)

    pub box-sides : whole_of k (v - y0) (y1 - v) (x1 - x0) ≡ false → 2 * k ≤ x1 - x0 → x0 ≤ x1 → (u old : ℕ)
        → box_after x0 x1 y0 y1 k colour v u old
        ≡ run_after (x1 + 1 - k) (x1 + 1) colour u (run_after x0 (x0 + k) colour u old)
    box-sides e w h u old = ⊎_elim
        (λ (l : u < x0). box-left u old l
        ∙ sym (run-left _ _ _ _ _ (omega arith) ∙ run-left x0 (x0 + k) colour u old l))
        (λ (g : x0 ≤ u). ⊎_elim
        (λ (l : u < x0 + k). box-near u old g (omega arith) (near-left k x0 x1 u (omega arith))
        ∙ sym (run-left _ _ _ _ _ (omega arith) ∙ run_in x0 (x0 + k) colour u old g l))
        (λ (m : x0 + k ≤ u). ⊎_elim
        (λ (l : u < x1 + 1 - k). box-far u old g (omega arith) e (omega arith) (omega arith)
        ∙ sym (run-left _ _ _ _ _ l ∙ run-right x0 (x0 + k) colour u old m))
        (λ (q : x1 + 1 - k ≤ u). ⊎_elim
        (λ (l : u < x1 + 1). box-near u old g (omega arith) (near-right k x0 x1 u (omega arith))
        ∙ sym (run_in (x1 + 1 - k) (x1 + 1) colour u _ q l))
        (λ (r : x1 + 1 ≤ u). box-right u old (omega arith)
        ∙ sym (run-right _ _ _ _ _ r ∙ run-right x0 (x0 + k) colour u old m))
        (split u (x1 + 1)))
        (split u (x1 + 1 - k)))
        (split u (x0 + k)))
        (split u x0)

-- what `is_whole` leaves where it answers false
pub whole-across : (k above below across : ℕ) → whole_of k above below across ≡ false → 2 * k ≤ across
unfolding whole_of
whole-across k above below across e =
    let t = either (ltb above k) (ltb below k) in
    let w = ltb across (2 * k) in ltb-false across (2 * k) (either-right t w (either-right (eqb k 0) (either t w) e))
