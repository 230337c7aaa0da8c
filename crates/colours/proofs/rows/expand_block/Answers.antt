-- `colours::rows::expand_block` meets its contract: sixteen times one index are sixteen times its colour.
-- Assumes nothing.
use Rattle.colours.proofs.RowParts.{colour-same}
use Rattle.colours.proofs.rows.expand_block.Goals as goal

pub returns-then-is_same : goal.returns-then-is_same
returns-then-is_same c = colour-same _ _ _ _ c.repeat16.ensures c.index_of.ensures.0
    (c.is_same.ensures c.if-is_same.true)
