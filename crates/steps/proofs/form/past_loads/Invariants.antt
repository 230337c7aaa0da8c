-- `steps::form::past_loads` meets its contract. The loads that are left from here on end where all
-- of them do; the place stays small, since a load has at most 65,538 bytes. Assumes nothing.
use Prim.Native.Nat.{◌+◌, ◌-◌, ◌*◌, ◌≤◌}
use mathlib.Core.Path.{◌≡◌}
use Rattle.steps.specs.Form.{loads_of, past_loads, writes_place}
use Rattle.steps.proofs.form.past_loads.Given as goal

abbrev pub invariant-loop : goal.invariant-loop
invariant-loop l = (l.at ≤ 1 + 65538 * l.counter) × (past_loads (loads_of l.b - l.counter) l.b l.at ≡ writes_place l.b)
