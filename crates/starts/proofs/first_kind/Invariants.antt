-- `starts::first_kind` meets its contract: the invariant is that none before n refuses. Assumes nothing.
use mathlib.Core.Path.{◌≡◌}
use Rattle.lists.specs.Runs.{first_of}
use Rattle.words.specs.Check.{kind_at}
use Rattle.starts.proofs.first_kind.Given as goal

abbrev pub invariant-loop-n : goal.invariant-loop-n
invariant-loop-n l = first_of l.n (kind_at l.floats l.w) ≡ 0
