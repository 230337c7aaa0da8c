-- What the calls so far have left leads to what the block leaves, and it is what some calls left. The measure is
-- what is left of the block.
use Rattle.std.proofs.Common.{◌≤◌, ◌-◌, length}
use Rattle.display.specs.Reached.{Arranged}
use Rattle.lines.specs.Calls.{block_of}
use Rattle.lines.proofs.CallLaws.{Reaches}
use Rattle.sheet.proofs.Laws.{Called}
use Rattle.sheet.proofs.pass.Given as goal

abbrev pub invariant-loop-c : goal.invariant-loop-c
invariant-loop-c g l =
    record {
      reaches : Reaches l.block l.c.going l.tables l.text l.c.used (block_of l.fn.going l.fn.tables l.fn.text l.block);
      called : Called l.block l.fn.going l.fn.tables l.fn.text l.c.going l.tables l.text l.c.used;
      inside : l.c.used ≤ length l.block;
      arranged : Arranged l.c.going.state;
    }

abbrev pub decreases-loop-c : goal.decreases-loop-c
decreases-loop-c g l = length l.block - l.c.used
