-- `numbers::put_word` meets its contract: four stores, one for each of the library's bytes of the word. Assumes nothing.
use Rattle.lists.proofs.Little.{four-set}
use Rattle.numbers.proofs.put_word.Goals as goal

pub returns : goal.returns
returns c = rw c.to_le_bytes.ensures (four-set c.args.part.now c.args.value c.requires)
