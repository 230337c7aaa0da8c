-- The order of painting has at most eight layers, since a layer has one depth, and its elements are enabled.
-- Assumes nothing.
use mathlib.Core.Path.{◌≡◌, refl, ap₂, ◌∙◌}
use mathlib.Core.Bool.{Bool, true, false}
use mathlib.Core.Logic.{⊎_elim}
use mathlib.Core.List.{List, [], ◌∷◌}
use Prim.Native.Nat.{ℕ, zero, suc, ◌+◌, ◌≤◌, ◌<◌}
use native.Mathlib.Nat.{not-suc-le-zero, le_of_suc-le-suc}
use native.Mathlib.Omega.{arith}
use borrow.Author.Tests.{ne_eqb}
use lib.ListN.{length, length-append}
use lib.Dec.{eqb}
use Rattle.lists.specs.Choice.{pick, choose, both}
use Rattle.lists.specs.Runs.{sum_of}
use Rattle.lists.proofs.Choice.{same_or, both_left}
use Rattle.lists.proofs.Steps.{Every, every_append}
use Rattle.lists.proofs.Sum.{sum-le, sum-swap}
use Rattle.words.specs.Fields.{layer_of}
use Rattle.words.specs.Order.{here, layers_at, layers_below, order_of}

-- ---- counting

-- 1 for a layer n that is here, at depth d
abbrev pub counts : List ℕ → ℕ → ℕ → ℕ
counts w d n = pick (here (layer_of w n) d) 1 0

length-one : (t : Bool) (k : ℕ) → length (choose t (k ∷ []) []) ≡ pick t 1 0
length-one true k = refl
length-one false k = refl

pub length-layers_at : (w : List ℕ) (d k : ℕ) → length (layers_at w d k) ≡ sum_of k (counts w d)
unfolding layers_at sum_of
length-layers_at w d zero = refl
length-layers_at w d (suc k) =
    length-append (layers_at w d k) _
    ∙ ap₂ (λ (x y : ℕ). x + y) (length-layers_at w d k) (length-one (here (layer_of w k) d) k)

length-layers_below : (w : List ℕ) (d : ℕ) → length (layers_below w d) ≡ sum_of d (λ e. sum_of 8 (counts w e))
unfolding layers_below sum_of
length-layers_below w zero = refl
length-layers_below w (suc d) =
    length-append (layers_below w d) _
    ∙ ap₂ (λ (x y : ℕ). x + y) (length-layers_below w d) (length-layers_at w d 8)

counts-other : (w : List ℕ) (d n : ℕ) → ((layer_of w n).depth ≡ d → ⊥) → counts w d n ≡ 0
counts-other w d n ne = go (layer_of w n).on (eqb (layer_of w n).depth d) (ne_eqb _ _ ne)
  where
    go : (a b : Bool) → b ≡ false → pick (both a b) 1 0 ≡ 0
    go true true e = absurd (mathlib.Core.Bool.true≢false e)
    go true false e = refl
    go false b e = refl

counts-le : (w : List ℕ) (d n : ℕ) → counts w d n ≤ 1
counts-le w d n = go (here (layer_of w n) d)
  where
    go : (t : Bool) → pick t 1 0 ≤ 1
    go true = omega arith
    go false = omega arith

-- below its depth a layer does not count, and at all depths together once at most
none_below : (w : List ℕ) (n d : ℕ) → d ≤ (layer_of w n).depth → sum_of d (λ e. counts w e n) ≡ 0
unfolding sum_of
none_below w n zero h = refl
none_below w n (suc d) h =
    let r : sum_of d (λ e. counts w e n) ≡ 0 = none_below w n d (omega arith) in
    let s : counts w d n ≡ 0 = counts-other w d n (λ q. omega arith) in omega arith

once : (w : List ℕ) (n d : ℕ) → sum_of d (λ e. counts w e n) ≤ 1
unfolding sum_of
once w n zero = omega arith
once w n (suc d) = ⊎_elim
    (λ (q : (layer_of w n).depth ≡ d). omega (arith, none_below w n d (omega arith), counts-le w d n))
    (λ (ne : (layer_of w n).depth ≡ d → ⊥). omega (arith, once w n d, counts-other w d n ne))
    (same_or (layer_of w n).depth d)

pub length-layers_below-le : (w : List ℕ) (d : ℕ) → length (layers_below w d) ≤ 8
length-layers_below-le w d =
    omega (
      arith,
      length-layers_below w d,
      sum-swap d 8 (counts w),
      sum-le 8 1 (λ n. sum_of d (λ e. counts w e n)) (λ n h. once w n d),
    )

pub length-order_of-le : (w : List ℕ) → length (order_of w) ≤ 8
unfolding order_of
length-order_of-le w = length-layers_below-le w 8

-- ---- its elements are enabled layers

abbrev pub Enabled : List ℕ → ℕ → Type 0
Enabled w n = (n < 8) × ((layer_of w n).on ≡ true)

layers_at-enabled : (w : List ℕ) (d k : ℕ) → k ≤ 8 → Every (Enabled w) (layers_at w d k)
unfolding layers_at
layers_at-enabled w d zero h i lt = absurd (not-suc-le-zero lt)
layers_at-enabled w d (suc k) h i lt =
    every_append (Enabled w) (layers_at w d k) _ (layers_at-enabled w d k (omega arith))
    (one (here (layer_of w k) d) (λ e. (omega arith, both_left (layer_of w k).on _ e))) i lt
  where
    one : (t : Bool) → (t ≡ true → Enabled w k) → Every (Enabled w) (choose t (k ∷ []) [])
    one true f zero lt = f refl
    one true f (suc i) lt = absurd (not-suc-le-zero (le_of_suc-le-suc lt))
    one false f i lt = absurd (not-suc-le-zero lt)

layers_below-enabled : (w : List ℕ) (d : ℕ) → Every (Enabled w) (layers_below w d)
unfolding layers_below
layers_below-enabled w zero i lt = absurd (not-suc-le-zero lt)
layers_below-enabled w (suc d) i lt =
    every_append (Enabled w) (layers_below w d) _ (layers_below-enabled w d) (layers_at-enabled w d 8 (omega arith)) i lt

pub order_of-enabled : (w : List ℕ) → Every (Enabled w) (order_of w)
unfolding order_of
order_of-enabled w = layers_below-enabled w 8
