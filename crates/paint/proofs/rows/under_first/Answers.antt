-- `paint::rows::under_first` meets its contract: the background is the words'. Assumes nothing.
use Rattle.paint.proofs.rows.under_first.Goals as goal

pub returns : goal.returns
returns c = rw c.ground_of.ensures at c.grounded.ensures
