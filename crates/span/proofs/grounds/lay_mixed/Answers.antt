-- `span::grounds::lay_mixed` meets its contract: the loop has laid a part of the run, from `from` up to i, where another
-- block begins; the measure is what is left. Assumes nothing.
use borrow.Author.Rules.{rules}
use native.Mathlib.Omega.{arith}
use Rattle.span.proofs.GroundLaws.{mixed-more}
use Rattle.span.proofs.grounds.lay_mixed.Goals as goal

pub loop-u-preserved : goal.loop-u-preserved
loop-u-preserved c = (search (mixed-more, rules), omega (arith, c.is_mixed_at.ensures c.if-not-is_mixed_at.false, c.requires.0))

pub returns : goal.returns
returns c = record { reach = search (mixed-more, rules); some = search rules }
