-- `words::image::words_at` meets its contract: the invariant is that the words below i are read. Assumes nothing.
use native.Mathlib.Omega.{arith}
use Rattle.lists.proofs.Upto.{upto_done}
use Rattle.words.specs.Image.{words_from}
use Rattle.words.proofs.image.words_at.Goals as goal

pub returns : goal.returns
unfolding words_from
returns c = upto_done c.loop-i.invariant (omega arith)
