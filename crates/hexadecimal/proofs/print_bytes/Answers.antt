-- `hexadecimal::print_bytes` meets its contract: at the head of turn i the digits of the first i
-- bytes are written. Assumes nothing.
use borrow.Author.Rules.{rules}
use mathlib.Core.Path.{refl}
use lib.ListN.{length-set}
use Rattle.lists.proofs.Over.{over_none}
use Rattle.hexadecimal.specs.Hex.{digits_of}
use Rattle.hexadecimal.proofs.HexLaws.{digits_of-turn}
use Rattle.hexadecimal.proofs.print_bytes.Goals as goal

pub loop-i-init : goal.loop-i-init
unfolding digits_of
loop-i-init c = (refl, over_none _)

pub loop-i-preserved : goal.loop-i-preserved
loop-i-preserved c = (simp length-set (search rules), search (digits_of-turn, rules))
