-- The law of an opaque layer in wider words than demand 3's: what may differ under it is anything.
-- Assumes nothing.
use Rattle.std.specs.Prelude.{ℕ, ◌≤◌, ◌<◌, ◌≡◌, true, ◌⊎◌, List, get_or}
use Rattle.mix.specs.Pixel.{channels}
use Rattle.words.specs.Fields.{layer_of}
use Rattle.frames.specs.Scene.{Scene}
use Rattle.frames.specs.Pixel.{covers}
use Rattle.laws.specs.Painting.{IsLayer, alpha_over, own_over}

-- in both scenes layer m is the same layer and, where it covers (x, y), shows the same there
pub record SameAt (s t : Scene) (m y x : ℕ) : Type 0 where
  pub layer : layer_of t.words m ≡ layer_of s.words m
  pub alpha : covers (layer_of s.words m) y x ≡ true → alpha_over t m y x ≡ alpha_over s m y x
  pub own : covers (layer_of s.words m) y x ≡ true → (c : ℕ) → c < channels
      → own_over t m y x c ≡ own_over s m y x c

-- a layer of depth d or above
pub record From (w : List ℕ) (d m : ℕ) : Type 0 where
  pub layer : IsLayer w m
  pub depth : d ≤ (layer_of w m).depth

-- on screens of one size, whatever is a layer from depth d on in either scene is the same in both at
-- (x, y). The backgrounds and the layers under d may differ in anything.
pub record AgreeFrom (s t : Scene) (d y x : ℕ) : Type 0 where
  pub size : get_or t.words 1 0 ≡ get_or s.words 1 0
  pub layers : (m : ℕ) → From s.words d m ⊎ From t.words d m → SameAt s t m y x
