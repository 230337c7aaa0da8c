-- A sheet begins with a state that is arranged, and a block leaves one.
use Rattle.lines.proofs.Arranged.{begun-arranged, block_of-arranged}
use Rattle.sheet.proofs.run.Goals as goal

pub loop-init : goal.loop-init
loop-init g c = rw c.begin-going.ensures begun-arranged

pub loop-preserved : goal.loop-preserved
loop-preserved g c = rw c.in_ok-going.ensures.value (block_of-arranged _ _ _ _ c.loop.invariant)
