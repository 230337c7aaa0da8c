-- `colours::rows::put4` meets its contract: the four stores are a part of four bytes. Assumes nothing.
use native.Mathlib.Omega.{arith}
use lib.ListN.{length-set}
use borrow.Author.Rules.{rules}
use Rattle.colours.proofs.RowParts.{put4-part}
use Rattle.colours.proofs.rows.put4.Goals as goal

pub bounds-out-i-2 : goal.bounds-out-i-2
bounds-out-i-2 c = simp length-set (omega arith)

pub bounds-out-i-3 : goal.bounds-out-i-3
bounds-out-i-3 c = simp length-set (omega arith)

pub bounds-out-i-4 : goal.bounds-out-i-4
bounds-out-i-4 c = simp length-set (omega arith)

pub returns : goal.returns
returns c = search (put4-part, rules)
