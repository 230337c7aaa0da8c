-- `sheet::no_tables` meets its contract: the array is `zeros` computed. Assumes nothing.
use mathlib.Core.Path.{refl}
use Rattle.tables.specs.Geometry.{tables_len, bank_len}
use Rattle.line.specs.Line.{zeros}
use Rattle.sheet.proofs.no_tables.Goals as goal

pub returns : goal.returns
unfolding zeros tables_len bank_len
returns c = (refl, refl)
