-- `mix::fade` meets its contract: below the length the sum stays under 2 ^ 24 and a half, so no step
-- wraps; each `return` is a case of `fade_at` at the e that the wrapping difference gives.
-- Assumes nothing.
use Rattle.std.proofs.Common.{◌+◌, ◌-◌, ◌*◌, ◌≤◌, sym, arith}
use Rattle.mix.specs.Fade.{fade_of}
use Rattle.mix.proofs.FadeLaws.{fade_at-still, fade_at-before, fade_at-ended, fade_at-way, is-elapsed, way-sum-le}
use Rattle.mix.proofs.FadeLaws.{way-le}
use Rattle.mix.proofs.fade.Goals as goal

pub returns-then-length-eq0 : goal.returns-then-length-eq0
unfolding fade_of
returns-then-length-eq0 c = rw c.if-length-eq0.true (sym (fade_at-still _ _ _))

pub returns-then-e-ge-NEGATIVE : goal.returns-then-e-ge-NEGATIVE
unfolding fade_of
returns-then-e-ge-NEGATIVE c = rw (is-elapsed _ _ _ (omega arith) (omega arith) (omega arith) c.wrapping_sub_u32-e.ensures.value) (sym (fade_at-before _ _ _ _ (omega arith)))

pub returns-then-frames-e : goal.returns-then-frames-e
unfolding fade_of
returns-then-frames-e c = rw (is-elapsed _ _ _ (omega arith) (omega arith) (omega arith) c.wrapping_sub_u32-e.ensures.value) (sym (fade_at-ended _ _ _ _ (omega arith) (omega arith) (omega arith)))

-- the way's sum is at most 255 for each frame of the length
bound : (c : goal.Else-frames-e)
    → let a = c.args in let e = c.wrapping_sub_u32-e.result in a.value * (a.length - e) + a.target * e ≤ a.length * 255
bound c = way-sum-le _ _ _ _ 255 c.if-frames-e.false (omega arith) (omega arith)

pub overflow_mul-sum : goal.overflow_mul-sum
overflow_mul-sum c = omega (arith, bound c)

pub overflow_mul-sum-2 : goal.overflow_mul-sum-2
overflow_mul-sum-2 c = omega (arith, bound c)

pub overflow_add-sum : goal.overflow_add-sum
overflow_add-sum c = omega (arith, bound c)

pub overflow_add-sum-2 : goal.overflow_add-sum-2
overflow_add-sum-2 c = omega (arith, bound c)

value : (c : goal.Else-frames-e) → c.args.value ≤ 255
value c = omega arith

target : (c : goal.Else-frames-e) → c.args.target ≤ 255
target c = omega arith

pub overflow_cast-result : goal.overflow_cast-result
overflow_cast-result c = omega (arith, way-le _ _ _ _ 255 c.if-frames-e.false (value c) (target c))

pub returns : goal.returns
unfolding fade_of
returns c = rw (is-elapsed _ _ _ (omega arith) (omega arith) (omega arith) c.wrapping_sub_u32-e.ensures.value) (sym (fade_at-way _ _ _ _ (omega arith) (omega arith)))
