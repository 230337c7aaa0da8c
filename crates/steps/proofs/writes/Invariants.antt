-- `steps::writes` meets its contract: what is left to write from here on comes to the same
-- as the whole. Assumes nothing.
use Prim.Native.Nat.{ℕ, ◌+◌, ◌-◌, ◌*◌}
use mathlib.Core.Path.{◌≡◌}
use mathlib.Core.List.{List}
use Rattle.steps.specs.Steps.{midway, run_of, writes_at}
use Rattle.steps.proofs.writes.Given as goal

abbrev pub invariant-loop-i : goal.invariant-loop-i
invariant-loop-i l = (m : List ℕ) → run_of (midway l.t m) (writes_at (l.n - l.i) l.b (l.from + 5 * l.i))
    ≡ run_of (midway l.initial.t m) (writes_at l.n l.b l.from)
