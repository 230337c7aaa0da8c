-- How `Order` grows by one layer, and what its two loops leave. Assumes nothing.
use mathlib.Core.Path.{◌≡◌, refl, sym, ap, ap₂, ◌∙◌}
use mathlib.Core.Bool.{true, false}
use mathlib.Core.List.{List, [], ◌∷◌, ◌++◌, append_assoc, append-nil}
use Prim.Native.Nat.{ℕ, suc, ◌+◌, ◌-◌, ◌≤◌, ◌<◌}
use native.Mathlib.Numerals.{add-one}
use native.Mathlib.Omega.{arith}
use lib.ListN.{length, get_or, set, replicate, length-append, get_or-append}
use lib.Seq.{set-append_seam, append_snoc}
use Rattle.lists.specs.Choice.{choose}
use Rattle.lists.specs.Runs.{sum_of}
use Rattle.lists.proofs.Sum.{sum_room}
use Rattle.words.specs.Fields.{layer_of}
use Rattle.words.specs.Order.{here, layers_at, layers_below, order_of}
use Rattle.words.proofs.OrderLaws.{counts, length-layers_at, length-layers_below-le}
use Rattle.order.specs.declared.Order.{Order}
use Rattle.order.specs.Layout.{packed}
use Rattle.order.specs.Engine.Found.{found}

-- ---- one layer more

abbrev order : List ℕ → ℕ → Order
order l k = record { layers = l; count = k }

packed_more : (l : List ℕ) (n : ℕ) → length l < 8
    → order (set (l ++ replicate (8 - length l) 0) (length l) n) (length l + 1) ≡ packed (l ++ (n ∷ []))
packed_more l n h =
    let q : 8 - length l ≡ suc (7 - length l) = omega arith in
    let r : length (l ++ (n ∷ [])) ≡ length l + 1 = length-append l (n ∷ []) in
    let s : 7 - length l ≡ 8 - length (l ++ (n ∷ [])) = omega arith in
    ap₂ order
    (ap (λ (k : ℕ). set (l ++ replicate k 0) (length l) n) q ∙ set-append_seam l 0 (replicate (7 - length l) 0) n
    ∙ sym (append_snoc l n (replicate (7 - length l) 0)) ∙ ap (λ (k : ℕ). l ++ (n ∷ []) ++ replicate k 0) s)
    (sym r)

found-next : (w : List ℕ) (d n : ℕ) → found w d (n + 1) ≡ found w d n ++ choose (here (layer_of w n) d) (n ∷ []) []
unfolding layers_at
found-next w d n = rw add-one (sym (append_assoc (layers_below w d) (layers_at w d n) _))

pub found_none : (w : List ℕ) (d : ℕ) → layers_below w d ≡ found w d 0
unfolding layers_at
found_none w d = sym (append-nil (layers_below w d))

pub found_all : (w : List ℕ) (d : ℕ) → found w d 8 ≡ layers_below w (d + 1)
unfolding layers_below
found_all w d = rw add-one

length_found : (w : List ℕ) (d n : ℕ) → length (found w d n) ≡ length (layers_below w d) + sum_of n (counts w d)
length_found w d n =
    length-append (layers_below w d) _ ∙ ap (λ (z : ℕ). length (layers_below w d) + z) (length-layers_at w d n)

found-room : (w : List ℕ) (d n : ℕ) → n < 8 → here (layer_of w n) d ≡ true → length (found w d n) < 8
found-room w d n h t =
    let a : counts w d n ≡ 1 = rw t in
    let b : length (layers_below w (d + 1)) ≡ length (found w d 8) = ap length (sym (found_all w d)) in
    omega (arith, length_found w d n, length_found w d 8, length-layers_below-le w (d + 1), sum_room 8 n (counts w d) h)

module _ (w : List ℕ) (d n : ℕ) (o : Order) (h : n < 8) (is : o ≡ packed (found w d n)) where
  pub order-room : here (layer_of w n) d ≡ true → o.count < 8
  order-room t = rw is (found-room w d n h t)

  pub order-taken : here (layer_of w n) d ≡ true
      → order (set o.layers o.count n) (o.count + 1) ≡ packed (found w d (n + 1))
  order-taken t = rw (is, found-next w d n, t) (packed_more (found w d n) n (found-room w d n h t))

  pub order-left : here (layer_of w n) d ≡ false → o ≡ packed (found w d (n + 1))
  order-left t = rw (found-next w d n, t, append-nil (found w d n)) is

-- ---- the ends of the two loops

pub order-depth : (w : List ℕ) (d n : ℕ) (o : Order) → n ≤ 8 → 8 ≤ n → o ≡ packed (found w d n)
    → o ≡ packed (layers_below w (d + 1))
order-depth w d n o p q is = let e : n ≡ 8 = omega arith in rw (← found_all w d) (rw e at is)

pub order-all : (w : List ℕ) (d : ℕ) (o : Order) → d ≤ 8 → 8 ≤ d → o ≡ packed (layers_below w d) → o ≡ packed (order_of w)
unfolding order_of
order-all w d o p q is = let e : d ≡ 8 = omega arith in rw e at is

pub order-none : (w : List ℕ) → packed [] ≡ packed (layers_below w 0)
unfolding layers_below
order-none w = refl

-- ---- its elements

-- the element at i of the array is that of the list
pub packed-at : (l : List ℕ) (i : ℕ) → i < length l → get_or (packed l).layers i 0 ≡ get_or l i 0
packed-at l i h = get_or-append l _ 0 i h
