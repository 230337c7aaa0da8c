-- What has come of the next line, behind the bytes that are left, stays the same, and what goes on is what some
-- turns left. The measure is what is left of the block.
use Rattle.std.proofs.Common.{◌≡◌, ◌≤◌, ◌-◌, length, take, drop}
use Rattle.texts.specs.Engine.Gathers.{open_from}
use Rattle.mend.specs.Sizes.{image_kept}
use Rattle.mend.proofs.BlockLaws.{Turned}
use Rattle.mend.proofs.pass.Given as goal

abbrev pub invariant-loop-at : goal.invariant-loop-at
invariant-loop-at g l =
    record {
      opens : take image_kept (open_from (take l.held l.text) (drop l.at l.block))
          ≡ take image_kept (open_from (take l.fn.first l.fn.text) l.block);
      inside : l.at ≤ length l.block;
      turned : Turned l.block l.fn.first l.fn.text l.at l.held l.text;
    }

abbrev pub decreases-loop-at : goal.decreases-loop-at
decreases-loop-at g l = length l.block - l.at
