-- `loads::store` meets its contract: the copy fills the part that is lent. Assumes nothing.
use borrow.Author.Tests.{true-eqb}
use Rattle.loads.proofs.LoadLaws.{stored-empty, stored-lent}
use Rattle.loads.proofs.store.Goals as goal

pub returns-then-is_empty : goal.returns-then-is_empty
returns-then-is_empty c = stored-empty _ _ _ (true-eqb _ _ c.if-is_empty.ensures)

pub returns : goal.returns
returns c = rw (← c.first_byte_of.ensures.0) (stored-lent _ _ _ _ c.copy.ensures)
