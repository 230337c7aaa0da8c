-- `hexadecimal::read_bytes` meets its contract. At the head of turn i the digits from 2·i on are as
-- good as the whole text, and the first i bytes stand before what they stand for. Assumes nothing.
use native.Mathlib.Omega.{arith}
use mathlib.Core.Path.{◌≡◌, refl}
use Prim.Native.Nat.{◌/◌}
use lib.ListN.{length}
use Rattle.hexadecimal.specs.Hex.{is_hex, bytes_in}
use Rattle.hexadecimal.proofs.HexLaws.{is_hex-upper, is_hex-lower, is_hex-turn, is_hex-odd, is_hex-even, bytes_in-turn, bytes_in-end}
use Rattle.hexadecimal.proofs.read_bytes.Goals as goal

pub returns-in_err-upper : goal.returns-in_err-upper
returns-in_err-upper c =
    rw c.from_residual.ensures
    (is_hex-upper c.args.text.now c.loop-i.i _ (omega arith) c.loop-i.invariant.0 c.in_err-upper.ensures)

pub returns-in_err-lower : goal.returns-in_err-lower
returns-in_err-lower c =
    rw c.from_residual-in_err-lower.ensures
    (is_hex-lower c.args.text.now c.loop-i.i _ c.in_ok-upper.upper (omega arith) c.loop-i.invariant.0 c.in_ok-upper.ensures
    c.in_err-lower.ensures)

pub loop-i-preserved : goal.loop-i-preserved
loop-i-preserved c =
    let l = c.loop-i in let t = c.args.text.now in let q = c.in_ok-upper.ensures in let r = c.in_ok-lower.ensures in (
      is_hex-turn t l.i (is_hex t) _ _ (omega arith) l.invariant.0 q r,
      bytes_in-turn t _ (bytes_in t) l.i _ _ _ (omega arith) (omega arith) l.invariant.1 q.0 r.0 refl,
    )

pub returns-then-text-eq1 : goal.returns-then-text-eq1
returns-then-text-eq1 c =
    is_hex-odd c.args.text.now c.loop-i.i _ (omega arith) c.if-text-eq1.true c.loop-i.invariant.0

pub returns : goal.returns
returns c = let t = c.args.text.now in let e : c.loop-i.i ≡ length t / 2 = omega arith in (
  is_hex-even t c.loop-i.i _ e c.if-text-eq1.false c.loop-i.invariant.0,
  refl,
  bytes_in-end t _ _ c.loop-i.i e c.if-text-eq1.false c.loop-i.invariant.1,
)
