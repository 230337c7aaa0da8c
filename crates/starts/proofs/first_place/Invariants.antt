-- `starts::first_place` meets its contract: the invariant is that none before n refuses. Assumes nothing.
use mathlib.Core.Path.{◌≡◌}
use Rattle.lists.specs.Runs.{first_of}
use Rattle.words.specs.Check.{place_at}
use Rattle.starts.proofs.first_place.Given as goal

abbrev pub invariant-loop-n : goal.invariant-loop-n
invariant-loop-n l = first_of l.n (place_at l.w) ≡ 0
