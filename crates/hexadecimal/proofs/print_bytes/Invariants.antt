-- `hexadecimal::print_bytes` meets its contract: at the head of turn i the digits of the first i
-- bytes are written. Assumes nothing.
use mathlib.Core.Path.{◌≡◌}
use lib.ListN.{length, take}
use Rattle.lists.specs.Over.{over}
use Rattle.hexadecimal.specs.Hex.{digits_of}
use Rattle.hexadecimal.proofs.print_bytes.Given as goal

abbrev pub invariant-loop-i : goal.invariant-loop-i
invariant-loop-i l = (length l.out ≡ length l.initial.out) × (l.out ≡ over (digits_of (take l.i l.bytes)) l.initial.out)
