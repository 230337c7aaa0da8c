-- Where a layer covers a pixel, and what it then makes of it. Assumes nothing.
use mathlib.Core.Path.{◌≡◌, refl}
use mathlib.Core.Bool.{Bool, true, false}
use Prim.Native.Nat.{ℕ, ◌+◌, ◌-◌, ◌≤◌, ◌<◌}
use borrow.Author.Tests.{leb-true, ltb-true, le-leb, lt-ltb}
use lib.Dec.{leb}
use Rattle.lists.specs.Choice.{pick}
use Rattle.lists.proofs.Choice.{both_left, both_right}
use Rattle.mix.specs.Blend.{blend_of}
use Rattle.words.specs.declared.fields.Layer.{Layer}
use Rattle.words.specs.Fields.{layer_of}
use Rattle.frames.specs.Scene.{Scene}
use Rattle.frames.specs.Pixel.{own_at, alpha_at, spans, covers, over_at}

pub record Covered (l : Layer) (y x : ℕ) : Type 0 where
  pub left : l.x ≤ x
  pub right : x < l.x + l.width
  pub top : l.y ≤ y
  pub bottom : y < l.y + l.height

pub covers-covered : (l : Layer) (x y : ℕ) → covers l y x ≡ true → Covered l y x
unfolding covers
covers-covered l x y e =
    let across = both_left (spans l.x l.width x) _ e in
    let down = both_right (spans l.x l.width x) _ e in
    record {
      left = leb-true _ _ (both_left (leb l.x x) _ across);
      right = ltb-true _ _ (both_right (leb l.x x) _ across);
      top = leb-true _ _ (both_left (leb l.y y) _ down);
      bottom = ltb-true _ _ (both_right (leb l.y y) _ down);
    }

pub covered-covers : (l : Layer) (x y : ℕ) → Covered l y x → covers l y x ≡ true
unfolding covers
covered-covers l x y c =
    rw (le-leb _ _ c.left, lt-ltb _ _ c.right, le-leb _ _ c.top, lt-ltb _ _ c.bottom)

pub over-outside : (s : Scene) (x y c n p : ℕ) → (Covered (layer_of s.words n) y x → ⊥) → over_at s y x c n p ≡ p
unfolding over_at
over-outside s x y c n p out =
    go (covers (layer_of s.words n) y x) _ (λ e. out (covers-covered (layer_of s.words n) x y e))
  where
    go : (t : Bool) (z : ℕ) → (t ≡ true → ⊥) → pick t z p ≡ p
    go true z f = absurd (f refl)
    go false z f = refl

pub over-inside : (s : Scene) (x y c n p : ℕ) → Covered (layer_of s.words n) y x
    → over_at s y x c n p
    ≡ blend_of (alpha_at s n (y - (layer_of s.words n).y) (x - (layer_of s.words n).x))
    (own_at s n (y - (layer_of s.words n).y) (x - (layer_of s.words n).x) c) p
unfolding over_at
over-inside s x y c n p k = rw (covered-covers (layer_of s.words n) x y k)
