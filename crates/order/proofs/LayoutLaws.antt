-- What a state holds for painting, part by part; and of words that are all 0. Assumes nothing.
use mathlib.Core.Path.{◌≡◌, refl, ap}
use mathlib.Core.Bool.{true, false}
use mathlib.Core.List.{List}
use Prim.Native.Nat.{ℕ}
use lib.ListN.{length, replicate}
use Rattle.lists.specs.Runs.{sum_of}
use Rattle.lists.specs.Tab.{tab}
use Rattle.words.specs.Fields.{layer_of}
use Rattle.words.specs.Order.{order_of, layers_below, layers_at}
use Rattle.words.specs.Pictures.{picture_len, picture_len_at, picture_start, pictures_len, start_at}
use Rattle.order.specs.declared.Layout.{Layout}
use Rattle.order.specs.Layout.{packed, layout_of, no_layers}

module _ (w : List ℕ) (l : Layout) (e : l ≡ layout_of w) where
  pub held-order : l.order ≡ packed (order_of w)
  unfolding layout_of
  held-order = ap (λ (x : Layout). x.order) e

  pub held-count : l.order.count ≡ length (order_of w)
  unfolding layout_of
  held-count = ap (λ (x : Layout). x.order.count) e

  pub held-starts : l.pictures.starts ≡ tab 8 (start_at w)
  unfolding layout_of
  held-starts = ap (λ (x : Layout). x.pictures.starts) e

  pub held_bytes : l.pictures.bytes ≡ pictures_len false w
  unfolding layout_of
  held_bytes = ap (λ (x : Layout). x.pictures.bytes) e

  pub held-floats : l.pictures.floats ≡ pictures_len true w
  unfolding layout_of
  held-floats = ap (λ (x : Layout). x.pictures.floats) e

-- words that are all 0 enable no layer
pub layout-none : no_layers ≡ layout_of (replicate 52 0)
unfolding layout_of order_of layers_below layers_at pictures_len start_at picture_start picture_len_at picture_len layer_of sum_of tab
layout-none = refl
