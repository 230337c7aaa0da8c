-- `river::put` meets its contract: four stores within the row. Assumes nothing.
use mathlib.Core.Path.{refl}
use native.Mathlib.Omega.{arith}
use lib.ListN.{length-set}
use Rattle.river.specs.Engine.Steps.{written}
use Rattle.river.proofs.put.Goals as goal

pub bounds-row-i-2 : goal.bounds-row-i-2
bounds-row-i-2 c = simp length-set (omega arith)

pub bounds-row-i-3 : goal.bounds-row-i-3
bounds-row-i-3 c = simp length-set (omega arith)

pub bounds-row-i-4 : goal.bounds-row-i-4
bounds-row-i-4 c = simp length-set (omega arith)

pub returns : goal.returns
unfolding written
returns c = rw c.bytes_of-b.ensures refl
