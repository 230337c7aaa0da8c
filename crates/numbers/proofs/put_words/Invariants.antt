-- `numbers::put_words` meets its contract: the invariant is that the words below i are written. Assumes nothing.
use Prim.Native.Nat.{◌*◌}
use Rattle.lists.proofs.Upto.{Upto}
use Rattle.lists.specs.Bytes.{little_bytes}
use Rattle.numbers.proofs.put_words.Given as goal

abbrev pub invariant-loop-i : goal.invariant-loop-i
invariant-loop-i l = Upto l.part l.initial.part (little_bytes l.words) (4 * l.i)
