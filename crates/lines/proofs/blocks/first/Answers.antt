-- `lines::blocks::first` meets its contract: a fresh state, and nothing held. Assumes nothing.
use mathlib.Core.Path.{refl}
use Rattle.lines.proofs.blocks.first.Goals as goal

pub returns : goal.returns
returns c = rw c.new-told.ensures refl
