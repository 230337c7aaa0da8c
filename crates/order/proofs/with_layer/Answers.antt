-- `order::with_layer` meets its contract: of eight layers each has one depth, so there is room
-- for one that is here. Assumes nothing.
use mathlib.Core.Path.{◌≡◌, sym, ap, ◌∙◌}
use mathlib.Core.Bool.{Bool, true}
use Prim.Native.Nat.{ℕ, ◌<◌}
use native.Mathlib.Omega.{arith}
use Rattle.words.specs.declared.fields.Layer.{Layer}
use Rattle.words.specs.Fields.{layer_of}
use Rattle.words.specs.Order.{here}
use Rattle.order.proofs.PackedLaws.{order-room, order-taken, order-left}
use Rattle.order.proofs.with_layer.Goals as goal

-- what `is_here` answers is whether the layer is here
asked : (l l' : Layer) (d : ℕ) (r : Bool) → r ≡ here l d → l ≡ l' → r ≡ here l' d
asked l l' d r e f = e ∙ ap (λ (k : Layer). here k d) f

seen : (c : goal.Then-is_here) → here (layer_of c.args.w.now c.args.n) c.args.d ≡ true
seen c = sym (asked _ _ _ _ c.is_here.ensures c.layer_of.ensures) ∙ c.if-is_here.true

room : (c : goal.Then-is_here) → c.args.order.count < 8
room c = order-room _ _ _ _ (omega arith) c.requires.2 (seen c)

pub bounds-order-at : goal.bounds-order-at
bounds-order-at c = room c

pub returns-then-is_here : goal.returns-then-is_here
returns-then-is_here c = order-taken _ _ _ _ (omega arith) c.requires.2 (seen c)

pub returns-else-is_here : goal.returns-else-is_here
returns-else-is_here c = order-left _ _ _ _ (omega arith) c.requires.2 (sym (asked _ _ _ _ c.is_here.ensures c.layer_of.ensures) ∙ c.if-is_here.false)
