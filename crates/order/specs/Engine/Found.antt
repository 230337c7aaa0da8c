-- The order of painting and the places of pictures as code finds them, on the way to `order_of` and `pictures_of`. No definition
-- of the document rests on these. Assumes nothing.
use Rattle.std.specs.Prelude.{ℕ, ◌+◌, true, false, List, ◌++◌, set}
use Rattle.lists.specs.Choice.{pick}
use Rattle.words.specs.declared.fields.Layer.{Layer}
use Rattle.words.specs.declared.pictures.Pictures.{Pictures}
use Rattle.words.specs.Order.{layers_at, layers_below}
use Rattle.words.specs.Pictures.{picture_len}

-- the layers of depths 0 to d - 1, and of depth d among layers 0 to k - 1: a search half way
abbrev pub found : List ℕ → ℕ → ℕ → List ℕ
found w d k = layers_below w d ++ layers_at w d k

-- layer n's picture behind those of lower number
abbrev pub with_picture : Pictures → Layer → ℕ → Pictures
with_picture p l n =
    record {
      starts = set p.starts n (pick l.floats p.floats p.bytes);
      bytes = p.bytes + picture_len false l;
      floats = p.floats + picture_len true l;
    }
