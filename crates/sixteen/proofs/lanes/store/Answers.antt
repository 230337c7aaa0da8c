-- `sixteen::lanes::store` meets its contract: the loop has stored the bytes of the first k words, a
-- part of `out` from `at` on. Assumes nothing.
use borrow.Author.Rules.{rules}
use Rattle.sixteen.proofs.LaneLaws.{store-turn}
use Rattle.sixteen.proofs.lanes.store.Goals as goal

pub loop-k-preserved : goal.loop-k-preserved
loop-k-preserved c = search (store-turn, rules)
