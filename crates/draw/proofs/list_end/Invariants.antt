-- `list_end` meets its contract: what is left of the list from k on gives the count of the whole.
-- The measure is how many instructions are left. Assumes nothing.
use mathlib.Core.Path.{◌≡◌}
use Prim.Native.Nat.{◌-◌, ◌≤◌}
use Rattle.lists.specs.Zero.{zero_from}
use Rattle.tables.specs.Geometry.{instructions}
use Rattle.draw.specs.Instruction.{opcode}
use Rattle.draw.specs.Drawing.{count_of}
use Rattle.draw.proofs.list_end.Given as goal

abbrev pub invariant-loop-k : goal.invariant-loop-k
invariant-loop-k l = (l.k ≤ instructions) × (zero_from (instructions - l.k) (opcode l.ins) l.k ≡ count_of l.ins)

abbrev pub decreases-loop-k : goal.decreases-loop-k
decreases-loop-k l = instructions - l.k
