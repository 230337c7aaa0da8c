-- `span::runs::own_mixed` meets its contract: the loop has done a part of the run, from `from` up to i, where another
-- block begins; the measure is what is left. Assumes nothing.
use borrow.Author.Rules.{rules}
use native.Mathlib.Omega.{arith}
use Rattle.span.proofs.OverParts.{own-mixed}
use Rattle.span.proofs.runs.own_mixed.Goals as goal

pub loop-preserved : goal.loop-preserved
loop-preserved c = (search (own-mixed, rules), omega (arith, c.is_mixed_at.ensures c.if-not-is_mixed_at.false, c.requires.0))

pub returns : goal.returns
returns c = record { reach = search (own-mixed, rules); some = search rules }
