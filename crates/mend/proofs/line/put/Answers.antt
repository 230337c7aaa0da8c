-- The part is copied right behind what is kept.
use mathlib.Core.Path.{refl}
use Rattle.mend.proofs.ReplyLaws.{put_is}
use Rattle.mend.proofs.line.put.Goals as goal

pub returns : goal.returns
returns c = (refl, put_is c.args.reply.now c.args.part.now _ _ c.args.n c.requires c.copy.ensures)
