-- `numbers::put_words` meets its contract: the invariant is that the words below i are written. Assumes nothing.
use native.Mathlib.Omega.{arith}
use Rattle.lists.proofs.Little.{word-again, words-bytes}
use Rattle.numbers.proofs.put_words.Goals as goal

pub loop-i-preserved : goal.loop-i-preserved
loop-i-preserved c = word-again _ _ _ c.loop-i.invariant c.loop-i-test.true c.requires.0 c.put_word.ensures

pub returns : goal.returns
returns c = words-bytes _ _ c.requires.0 (omega arith) c.loop-i.invariant
