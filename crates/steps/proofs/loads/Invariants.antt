-- `steps::loads` meets its contract: what is left to load from here on comes to the same as
-- the whole, and ends where all loads do; the place stays small, since a load has at most 65,538 bytes.
-- Assumes nothing.
use Prim.Native.Nat.{◌+◌, ◌-◌, ◌*◌, ◌≤◌}
use mathlib.Core.Path.{◌≡◌}
use Rattle.steps.specs.Form.{past_loads, loads_of, writes_place}
use Rattle.steps.specs.Steps.{midway, run_of, loads_at}
use Rattle.steps.proofs.loads.Given as goal

abbrev pub invariant-loop : goal.invariant-loop
invariant-loop l = (l.at ≤ 1 + 65538 * l.counter) × (past_loads (loads_of l.b - l.counter) l.b l.at ≡ writes_place l.b)
    × (run_of (midway l.t l.tables) (loads_at (loads_of l.b - l.counter) l.b l.at) ≡ run_of (midway l.initial.t l.initial.tables) (loads_at (loads_of l.b) l.b 1))
