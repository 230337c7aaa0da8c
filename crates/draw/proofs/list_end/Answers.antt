-- `list_end` meets its contract: what is left of the list from k on gives the count of the whole.
-- The measure is how many instructions are left. Assumes nothing.
use mathlib.Core.Path.{◌≡◌, refl, sym, ◌∙◌}
use mathlib.Core.Bool.{true, false}
use mathlib.Core.List.{List}
use Prim.Native.Nat.{ℕ, ◌+◌, ◌-◌, ◌≤◌, ◌<◌}
use native.Mathlib.Omega.{arith}
use borrow.Author.Tests.{lt-ltb, le-ltb}
use Rattle.lists.specs.Zero.{zero_from}
use Rattle.lists.proofs.Zero.{zero-stops, zero-passes, zero-ends}
use Rattle.tables.specs.Geometry.{instructions}
use Rattle.draw.specs.Instruction.{opcode}
use Rattle.draw.specs.Drawing.{count_of, ended_of, list_end}
use borrow.Author.Rules.{rules}
use Rattle.draw.proofs.list_end.Goals as goal

pub loop-k-init : goal.loop-k-init
unfolding count_of
loop-k-init c = (omega arith, refl)

list-again : (ins : List ℕ) (k op : ℕ) → op ≡ opcode ins k → (op ≡ 0 → ⊥) → k < instructions
    → zero_from (instructions - k) (opcode ins) k ≡ count_of ins
    → zero_from (instructions - (k + 1)) (opcode ins) (k + 1) ≡ count_of ins
list-again ins k op e ne h i = sym (zero-passes instructions (opcode ins) k h (rw e at ne)) ∙ i

pub loop-k-preserved : goal.loop-k-preserved
loop-k-preserved c = (omega arith, search (list-again, rules))

-- ---- the list's end: none found, or one at k

end_none : (ins : List ℕ) (k : ℕ) → instructions ≤ k → zero_from (instructions - k) (opcode ins) k ≡ count_of ins
    → record { found = false; count = k } ≡ list_end ins
unfolding ended_of
end_none ins k h i =
    let e : k ≡ count_of ins = sym (zero-ends instructions (opcode ins) k h) ∙ i in rw (← e, le-ltb k instructions h)

end-found : (ins : List ℕ) (k op : ℕ) → op ≡ opcode ins k → op ≡ 0 → k < instructions
    → zero_from (instructions - k) (opcode ins) k ≡ count_of ins
    → record { found = true; count = k } ≡ list_end ins
unfolding ended_of
end-found ins k op eo z h i =
    let e : k ≡ count_of ins = sym (zero-stops instructions (opcode ins) k h (sym eo ∙ z)) ∙ i in
    rw (← e, lt-ltb k instructions h)

pub returns-then-k-ge-INSTRUCTION_COUNT : goal.returns-then-k-ge-INSTRUCTION_COUNT
returns-then-k-ge-INSTRUCTION_COUNT c = search (end_none, rules)

pub returns-then-opcode-eq0 : goal.returns-then-opcode-eq0
returns-then-opcode-eq0 c = search (end-found, rules)
