-- `starts::clash_below` meets its contract: the invariant is that none before m refuses. Assumes nothing.
use mathlib.Core.Path.{◌≡◌}
use Rattle.lists.specs.Runs.{first_of}
use Rattle.words.specs.Check.{clash_at}
use Rattle.starts.proofs.clash_below.Given as goal

abbrev pub invariant-loop-m : goal.invariant-loop-m
invariant-loop-m l = first_of l.m (clash_at l.w l.n) ≡ 0
