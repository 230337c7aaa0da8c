-- The order of painting: 01 "Painting", "the enabled layers of those depths, in rising depth". It is
-- total: layers of one depth, which no start lets in, go by their number. Assumes nothing.
use Rattle.std.specs.Prelude.{ℕ, zero, suc, Bool, List, [], ◌∷◌, ◌++◌, eqb, leb, ltb}
use Rattle.lists.specs.Choice.{choose, both}
use Rattle.lists.specs.Steps.{keep}
use Rattle.words.specs.declared.fields.Layer.{Layer}
use Rattle.words.specs.Fields.{layer_of}

-- an enabled layer of depth d
abbrev pub here : Layer → ℕ → Bool
here l d = both l.on (eqb l.depth d)

-- those of depth d among layers 0 to k - 1
unfoldable pub layers_at : List ℕ → ℕ → ℕ → List ℕ
layers_at w d zero = []
layers_at w d (suc k) = layers_at w d k ++ choose (here (layer_of w k) d) (k ∷ []) []

-- those of depths 0 to d - 1
unfoldable pub layers_below : List ℕ → ℕ → List ℕ
layers_below w zero = []
layers_below w (suc d) = layers_below w d ++ layers_at w d 8

-- all of them
unfoldable pub order_of : List ℕ → List ℕ
order_of w = layers_below w 8

-- ---- the layers of a band

-- "the band a..b (depths from a up to but not b)": whether a layer's depth is one of them
abbrev pub within : ℕ → ℕ → Layer → Bool
within a b l = both (leb a l.depth) (ltb l.depth b)

-- "the enabled layers of those depths, in rising depth"
unfoldable pub band_layers : List ℕ → ℕ → ℕ → List ℕ
band_layers w a b = keep (λ n. within a b (layer_of w n)) (order_of w)
