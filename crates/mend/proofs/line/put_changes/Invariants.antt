-- `mend::line::put_changes` meets its contract: at the head of turn i the first i changed words stand behind
-- what was there. Assumes nothing.
use Prim.Native.Nat.{◌+◌, ◌*◌}
use mathlib.Core.Path.{◌≡◌}
use mathlib.Core.List.{◌++◌}
use lib.ListN.{length, take}
use Rattle.mend.specs.Sizes.{change_len}
use Rattle.mend.specs.Line.{listed_words}
use Rattle.mend.proofs.line.put_changes.Given as goal

abbrev pub invariant-loop-i : goal.invariant-loop-i
invariant-loop-i l = (l.n ≡ l.from + change_len * l.i) × (length l.reply ≡ length l.initial.reply)
    × (take l.n l.reply ≡ take l.from l.initial.reply ++ listed_words l.i l.list)
