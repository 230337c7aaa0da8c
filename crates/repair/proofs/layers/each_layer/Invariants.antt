-- `repair::layers::each_layer` meets its contract: the invariant is that the layers below n had their turn.
-- Assumes nothing.
use Rattle.repair.specs.Layers.{Steps}
use Rattle.repair.proofs.layers.each_layer.Given as goal

abbrev pub invariant-loop-n : goal.invariant-loop-n
invariant-loop-n g l = Steps (λ n v r. goal.F-post g l.step v n r) l.n l.fn.w l.w
