-- `line::refuse` meets its contract: one byte is stored at the front. Assumes nothing.
use borrow.Author.Rules.{rules}
use mathlib.Core.Path.{refl}
use lib.Seq.{take-suc-set}
use Rattle.line.proofs.refuse.Goals as goal

pub returns : goal.returns
returns c = (refl, refl, take-suc-set c.args.reply.now 0 c.args.answer (search rules))
