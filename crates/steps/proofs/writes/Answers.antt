-- `steps::writes` meets its contract: what is left to write from here on comes to the same
-- as the whole. Assumes nothing.
use mathlib.Core.Path.{refl}
use native.Mathlib.Numerals.{unary_clauses}
use Rattle.steps.specs.Steps.{midway}
use Rattle.steps.proofs.StepLaws.{writes-turn, writes_end}
use Rattle.steps.proofs.writes.Goals as goal

pub loop-i-init : goal.loop-i-init
loop-i-init c = λ l. simp unary_clauses refl

pub loop-i-preserved : goal.loop-i-preserved
loop-i-preserved c = λ z. writes-turn c.args.b.now c.args.n c.loop-i.i c.args.from _ _ _ _ _ c.loop-i-test.true
    (c.loop-i.invariant z) c.byte_at-register.ensures.0 c.word_at-value.ensures.0 (c.write-t.ensures z)

pub returns : goal.returns
returns c = λ z. writes_end c.args.b.now c.args.n c.loop-i.i c.args.from (midway c.loop-i.t z) (midway c.loop-i.t z) _
    c.loop-i-test.false (c.loop-i.invariant z)
