-- What a painting needs of the words alone, as a state holds it: 02 K5. Assumes nothing.
use Rattle.std.specs.Prelude.{ℕ, ◌-◌, List, [], ◌++◌, length, replicate}
use Rattle.words.specs.Order.{order_of}
use Rattle.words.specs.Pictures.{pictures_of}
use Rattle.order.specs.declared.Order.{Order}
use Rattle.order.specs.declared.Layout.{Layout}

-- "enabled layers in rising depth, and how many": a list of at most eight layers, 0 past its end
abbrev pub packed : List ℕ → Order
packed l = record { layers = l ++ replicate (8 - length l) 0; count = length l }

-- "what would be worked out afresh from the active words": the order, and (house) where the pictures begin
unfoldable pub layout_of : List ℕ → Layout
layout_of w = record { order = packed (order_of w); pictures = pictures_of w }

-- where no layer is enabled: all numbers 0
abbrev pub no_layers : Layout
no_layers = record { order = packed []; pictures = record { starts = replicate 8 0; bytes = 0; floats = 0 } }
