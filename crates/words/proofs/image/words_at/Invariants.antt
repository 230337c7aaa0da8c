-- `words::image::words_at` meets its contract: the invariant is that the words below i are read. Assumes nothing.
use Prim.Native.Nat.{◌+◌, ◌*◌}
use lib.ListN.{replicate}
use Rattle.lists.proofs.Upto.{Upto}
use Rattle.lists.specs.Little.{little_at}
use Rattle.words.proofs.image.words_at.Given as goal

abbrev pub invariant-loop-i : goal.invariant-loop-i
invariant-loop-i l = Upto l.words (replicate 52 0) (λ j. little_at l.s (l.at + 4 * j)) l.i
