-- The laws of mending that a designer relies on, of words with a screen. Assumes nothing.
use mathlib.Core.Path.{◌≡◌, refl, sym, ap, ◌∙◌}
use mathlib.Core.Bool.{Bool, true, false, not}
use mathlib.Core.Logic.{⊎_elim}
use mathlib.Core.List.{List}
use Prim.Native.Nat.{ℕ, ◌+◌, ◌^◌, ◌≤◌, ◌<◌}
use native.Mathlib.Omega.{arith}
use lib.Dec.{eqb}
use lib.ListN.{get_or, length}
use Rattle.lists.specs.Choice.{both}
use Rattle.lists.proofs.Choice.{same_or, split, refuses-not, both_left, both_right}
use Rattle.lists.proofs.Run.{run-still}
use Rattle.answers.specs.Answers.{done}
use Rattle.words.specs.declared.fields.Layer.{Layer}
use Rattle.words.specs.Fields.{low_of, high_of, width_of, height_of, layer_of}
use Rattle.words.specs.Check.{screen_of, clash_below, check_of, Placed, Accepted, LetIn}
use Rattle.words.proofs.ChangeLaws.{of_bytes, at_depth}
use Rattle.words.proofs.CheckLaws.{not-zero, check-accepted, accepted-check}
use Rattle.repair.specs.Steps.{spread_at, spread, placed, mend_of}
use Rattle.repair.proofs.AxisLaws.{axis-no-farther}
use Rattle.repair.proofs.PlaceLaws.{of_one_kind, lying_in, brought_in, placed-long, placed-across, placed-down}
use Rattle.repair.proofs.PlaceLaws.{placed-plain, placed-small, placed-layer, kind-same, kind-floats}
use Rattle.repair.proofs.PlaceLaws.{brought-kind, brought-on, brought-lies, brought-placed, placed-id}
use Rattle.repair.proofs.DepthLaws.{clash-found, Spread, spread-all}

sized : (w : List ℕ) → screen_of w ≡ done → (0 < width_of w) × (0 < height_of w)
unfolding screen_of
sized w e =
    let p = refuses-not (eqb (width_of w) 0) 7 _ e in
    let q = refuses-not (eqb (height_of w) 0) 7 _ p.1 in
    (not-zero (width_of w) p.0, not-zero (height_of w) q.0)

module _ (w : List ℕ) where
  -- step 5 after the others
  last : Spread (placed w) 8 (mend_of w)
  unfolding mend_of
  last = spread-all (placed w) (placed-long w)

  pub mend-long : length (mend_of w) ≡ 52
  mend-long = last.long

  pub mend-small : ((i : ℕ) → get_or w i 0 < 2 ^ 32) → (i : ℕ) → get_or (mend_of w) i 0 < 2 ^ 32
  mend-small s = last.small (placed-small w s)

  -- the screen stays
  pub mend-across : width_of (mend_of w) ≡ width_of w
  mend-across = ap low_of (last.first 1 (omega arith)) ∙ placed-across w

  pub mend-down : height_of (mend_of w) ≡ height_of w
  mend-down = ap high_of (last.first 1 (omega arith)) ∙ placed-down w

  -- each layer, of one kind, is brought in, at a depth that may be another
  pub mend-layer : (n : ℕ) → n < 8
      → layer_of (mend_of w) n
      ≡ at_depth (brought_in (width_of w) (height_of w) (of_one_kind (layer_of w n))) (layer_of (mend_of w) n).depth
  mend-layer n h =
      last.layer n h
      ∙ ap (λ (l : Layer). at_depth l (layer_of (mend_of w) n).depth) (placed-layer w n h)

  -- bit 1 stays; bit 2 is set afterwards where it was and bit 1 is not: "K4 clears bit 2 where bit 1 is set too"
  module _ (n : ℕ) (h : n < 8) where
    pub mend-graphics : (layer_of (mend_of w) n).graphics ≡ (layer_of w n).graphics
    mend-graphics =
        ap (λ (l : Layer). l.graphics) (mend-layer n h)
        ∙ (brought-kind (width_of w) (height_of w) (of_one_kind (layer_of w n))).0
        ∙ ap (λ (l : Layer). l.graphics) (kind-same (layer_of w n))

    pub mend-floats : (layer_of (mend_of w) n).floats ≡ both (not (layer_of w n).graphics) (layer_of w n).floats
    mend-floats =
        ap (λ (l : Layer). l.floats) (mend-layer n h)
        ∙ (brought-kind (width_of w) (height_of w) (of_one_kind (layer_of w n))).1 ∙ kind-floats (layer_of w n)

  module _ (n : ℕ) (h : n < 8) (o : (layer_of (mend_of w) n).on ≡ true) where
    in_on : (brought_in (width_of w) (height_of w) (of_one_kind (layer_of w n))).on ≡ true
    in_on = sym (ap (λ (l : Layer). l.on) (mend-layer n h)) ∙ o

    -- no layer is switched on
    pub mend-on : (layer_of w n).on ≡ true
    mend-on =
        sym (ap (λ (l : Layer). l.on) (kind-same (layer_of w n)))
        ∙ brought-on (width_of w) (height_of w) (of_one_kind (layer_of w n)) in_on

    mend-lies : 0 < width_of w → 0 < height_of w → Placed (width_of w) (height_of w) (layer_of (mend_of w) n)
    mend-lies wide tall =
        let p = brought-placed (width_of w) (height_of w) (of_one_kind (layer_of w n)) in_on wide tall in
        rw (mend-layer n h) (record { wide = p.wide; tall = p.tall; right = p.right; below = p.below })

    -- what an enabled layer is afterwards
    pub mend-lying : layer_of (mend_of w) n
        ≡ at_depth (lying_in (width_of w) (height_of w) (of_one_kind (layer_of w n))) (layer_of (mend_of w) n).depth
    mend-lying =
        mend-layer n h
        ∙ ap (λ (l : Layer). at_depth l (layer_of (mend_of w) n).depth)
        (brought-lies (width_of w) (height_of w) (of_one_kind (layer_of w n)) in_on)

    -- but for bit 2, what the layer itself would be
    lying : of_bytes (layer_of (mend_of w) n)
        ≡ of_bytes (at_depth (lying_in (width_of w) (height_of w) (layer_of w n)) (layer_of (mend_of w) n).depth)
    lying =
        ap of_bytes mend-lying
        ∙ ap (λ (l : Layer). of_bytes (at_depth (lying_in (width_of w) (height_of w) l) (layer_of (mend_of w) n).depth))
        (kind-same (layer_of w n))

    -- "just far enough": it is moved to the left, if at all, and after any smaller move it still sticks out
    pub mend-no-farther-across : ((layer_of (mend_of w) n).x ≤ (layer_of w n).x)
        × ((z : ℕ) → (layer_of (mend_of w) n).x < z → z ≤ (layer_of w n).x → width_of w < z + (layer_of (mend_of w) n).width)
    mend-no-farther-across =
        rw (ap (λ (l : Layer). l.x) lying, ap (λ (l : Layer). l.width) lying)
        (axis-no-farther (width_of w) (layer_of w n).width (layer_of w n).x)

    -- and so upwards
    pub mend-no-farther-down : ((layer_of (mend_of w) n).y ≤ (layer_of w n).y)
        × ((z : ℕ) → (layer_of (mend_of w) n).y < z → z ≤ (layer_of w n).y → height_of w < z + (layer_of (mend_of w) n).height)
    mend-no-farther-down =
        rw (ap (λ (l : Layer). l.y) lying, ap (λ (l : Layer). l.height) lying)
        (axis-no-farther (height_of w) (layer_of w n).height (layer_of w n).y)

  -- ---- "The result passes every start check"

  pub mend-accepted : screen_of w ≡ done → Accepted (mend_of w)
  mend-accepted e =
      let s = sized w e in
      record {
        plain = last.plain (placed-plain w);
        kinds = λ n h f. mend-graphics n h
            ∙ not_so (layer_of w n).graphics (both_left (not (layer_of w n).graphics) _ (sym (mend-floats n h) ∙ f));
        wide = rw mend-across s.0;
        tall = rw mend-down s.1;
        placed = λ n h o. rw (mend-across, mend-down) (mend-lies n h o s.0 s.1);
        apart = λ n m hn hm on om d. ⊎_elim
            (λ (lt : m < n). absurd (last.apart n m lt hn on om d))
            (λ (ge : n ≤ m). ⊎_elim
            (λ (i : n ≡ m). i)
            (λ (ne : n ≡ m → ⊥). absurd (last.apart m n (omega arith) hm om on (sym d)))
            (same_or n m))
            (split m n);
      }
    where
      not_so : (t : Bool) → not t ≡ true → t ≡ false
      not_so true e = sym e
      not_so false e = refl

  -- a layer is of floats afterwards only where it was: words without float layers are mended to such
  pub mend-lets : (floats : Bool) → LetIn floats w → LetIn floats (mend_of w)
  mend-lets floats l n h f = l n h (both_right (not (layer_of w n).graphics) _ (sym (mend-floats n h) ∙ f))

  pub mend-passes : screen_of w ≡ done → check_of true (mend_of w) ≡ done
  mend-passes e = accepted-check (mend_of w) true (mend-accepted e) (λ n h f. refl)

  -- where float layers are not let in, if there were none
  pub mend-passes-bytes : LetIn false w → screen_of w ≡ done → check_of false (mend_of w) ≡ done
  mend-passes-bytes l e = accepted-check (mend_of w) false (mend-accepted e) (mend-lets false l)

-- ---- "and an image which passes already comes back the same"

module _ (w : List ℕ) (long : length w ≡ 52) where
  module _ (acc : Accepted w) where
    spread-stays : (n : ℕ) → n < 8 → spread_at w n w ≡ w
    unfolding spread_at
    spread-stays n h = ⊎_elim
        (λ (z : clash_below w n ≡ 0). rw z refl)
        (λ (ne : clash_below w n ≡ 0 → ⊥).
        let c = clash-found w n ne in
        let q : n ≡ c.with = acc.apart n c.with h (omega (arith, c.below)) c.on c.also c.same in
        absurd (omega (arith, c.below)))
        (same_or (clash_below w n) 0)

    pub mend-same : mend_of w ≡ w
    unfolding mend_of spread
    mend-same = rw (placed-id w long acc) (run-still 8 (spread_at w) w spread-stays)

  -- wherever it passes, float layers let in or not
  pub mend-id : (floats : Bool) → check_of floats w ≡ done → mend_of w ≡ w
  mend-id floats e = mend-same (check-accepted w floats e)

-- ---- mending twice is mending once

pub mend-twice : (w : List ℕ) → screen_of w ≡ done → mend_of (mend_of w) ≡ mend_of w
mend-twice w e = mend-same (mend_of w) (mend-long w) (mend-accepted w e)
