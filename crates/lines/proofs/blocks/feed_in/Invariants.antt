-- `lines::blocks::feed_in` meets its contract: what the turns so far have left leads to what the call
-- leaves. The measure is what is left of the block. Assumes nothing.
use Prim.Native.Nat.{◌-◌, ◌≤◌}
use mathlib.Core.Path.{◌≡◌}
use lib.ListN.{length, take}
use Rattle.lists.specs.Over.{over}
use Rattle.lines.specs.Sizes.{most_kept, out_len}
use Rattle.display.specs.Reached.{Arranged}
use Rattle.lines.specs.Blocks.{feed_of}
use Rattle.lines.specs.Engine.Turns.{batch_at}
use Rattle.lines.proofs.BlockLaws.{Leads}
use Rattle.lines.proofs.blocks.feed_in.Given as goal

abbrev pub invariant-loop-tables : goal.invariant-loop-tables
invariant-loop-tables l = Leads l.block (batch_at l.c l.tables l.text l.out) (feed_of l.initial.c.going l.initial.tables l.initial.text l.block)
    × (l.out ≡ over (take l.c.count l.out) l.initial.out) × (l.c.used ≤ length l.block) × (l.c.count ≤ out_len)
    × (l.c.used ≡ 0 → l.c.count ≡ 0) × (length l.tables ≡ length l.initial.tables) × (length l.text ≡ most_kept)
    × (length l.out ≡ out_len) × Arranged l.c.going.state

abbrev pub decreases-loop-tables : goal.decreases-loop-tables
decreases-loop-tables l = length l.block - l.c.used
