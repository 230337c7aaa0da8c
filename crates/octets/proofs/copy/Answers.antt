-- `octets::copy` meets its contract: in the end every byte of the part stands in the row. Assumes nothing.
use Rattle.std.proofs.Common.{◌≡◌, length, arith}
use lib.Seq.{take-length}
use Rattle.lists.specs.Over.{over}
use Rattle.octets.proofs.copy.Goals as goal

pub returns : goal.returns
unfolding over
returns c =
    let e : c.loop-i.i ≡ length c.args.part.now = omega arith in
    rw (c.loop-i.invariant, e, take-length c.args.part.now)
