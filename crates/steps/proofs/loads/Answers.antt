-- `steps::loads` meets its contract: what is left to load from here on comes to the same as
-- the whole, and ends where all loads do; the place stays small, since a load has at most 65,538 bytes.
-- Assumes nothing.
use Prim.Native.Nat.{◌<◌, ◌≤◌}
use mathlib.Core.Path.{refl}
use native.Mathlib.Numerals.{unary_clauses}
use native.Mathlib.Omega.{arith}
use Rattle.steps.specs.Form.{loads_of, writes_place}
use Rattle.steps.specs.Steps.{midway}
use Rattle.steps.proofs.FormLaws.{past_loads-turn, load-room}
use Rattle.steps.proofs.StepLaws.{loads-turn, loads-end}
use Rattle.steps.proofs.loads.Goals as goal

pub loop-init : goal.loop-init
unfolding writes_place
loop-init c = (omega arith, simp unary_clauses refl, simp unary_clauses refl)

pub load-t-requires : goal.load-t-requires
load-t-requires c =
    let l = c.loop in (
      omega arith,
      load-room c.args.b.now _ l.counter l.at _ (omega (arith, c.byte_at-end.ensures.0)) l.invariant.1 c.requires,
    )

pub loop-preserved : goal.loop-preserved
loop-preserved c =
    let l = c.loop in let b = c.args.b.now in let k = c.count_at.ensures.0 in
    let h : l.counter < loads_of b = omega (arith, c.byte_at-end.ensures.0) in (
      omega arith,
      past_loads-turn b _ l.counter l.at _ _ h l.invariant.1 k,
      loads-turn b _ l.counter l.at _ _ _ _ h l.invariant.2 k c.load-t.ensures,
    )

pub returns : goal.returns
returns c =
    let l = c.loop in let b = c.args.b.now in
    let h : loads_of b ≤ l.counter = omega (arith, c.byte_at-end.ensures.0) in
    loads-end b _ l.counter l.at (midway l.t l.tables) (midway l.t l.tables) _ h l.invariant.2
