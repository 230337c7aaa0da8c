-- No two outcomes meet a function's promise. `Post` is the function's own `ensures`, as the check reads it
-- in `src/lib.rt`: of the arguments i, the answer a or b, and the arguments at exit, e or f. Assumes nothing.
use mathlib.Core.Path.{◌≡◌}
use Rattle.lists.proofs.Choice.{meet}
use Rattle.order.proofs.is_here.Reads as IsHere
use Rattle.order.proofs.order_of.Reads as OrderOf
use Rattle.order.proofs.pictures_of.Reads as PicturesOf
use Rattle.order.proofs.layout_of.Reads as LayoutOf
use Rattle.order.proofs.no_layers.Reads as NoLayers

pub is-here-unique : (κs i a b e f : _) → IsHere.Post κs i a e → IsHere.Post κs i b f → a ≡ b
is-here-unique κs i a b e f p q = meet p q

pub order-of-unique : (κs i a b e f : _) → OrderOf.Post κs i a e → OrderOf.Post κs i b f → a ≡ b
order-of-unique κs i a b e f p q = meet p q

pub pictures-of-unique : (κs i a b e f : _) → PicturesOf.Post κs i a e → PicturesOf.Post κs i b f → a ≡ b
pictures-of-unique κs i a b e f p q = meet p q

pub layout-of-unique : (κs i a b e f : _) → LayoutOf.Post κs i a e → LayoutOf.Post κs i b f → a ≡ b
layout-of-unique κs i a b e f p q = meet p q

pub no-layers-unique : (κs i a b e f : _) → NoLayers.Post κs i a e → NoLayers.Post κs i b f → a ≡ b
no-layers-unique κs i a b e f p q = meet p q
