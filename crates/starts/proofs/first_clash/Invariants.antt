-- `starts::first_clash` meets its contract: the invariant is that none before n refuses. Assumes nothing.
use mathlib.Core.Path.{◌≡◌}
use Rattle.lists.specs.Runs.{first_of}
use Rattle.words.specs.Check.{clash_below}
use Rattle.starts.proofs.first_clash.Given as goal

abbrev pub invariant-loop-n : goal.invariant-loop-n
invariant-loop-n l = first_of l.n (clash_below l.w) ≡ 0
