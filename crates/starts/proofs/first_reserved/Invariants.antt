-- `starts::first_reserved` meets its contract: the invariant is that none before i refuses. Assumes nothing.
use mathlib.Core.Path.{◌≡◌}
use Rattle.lists.specs.Runs.{first_of}
use Rattle.words.specs.Check.{reserved_at}
use Rattle.starts.proofs.first_reserved.Given as goal

abbrev pub invariant-loop-i : goal.invariant-loop-i
invariant-loop-i l = first_of l.i (reserved_at l.w) ≡ 0
