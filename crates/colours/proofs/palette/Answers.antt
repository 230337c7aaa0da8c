-- `colours::palette` meets its contract: the colours of a bank are a block of pixels at 0. Assumes
-- nothing.
use borrow.Author.Rules.{rules}
use Rattle.colours.proofs.PixelLaws.{palette-is}
use Rattle.colours.proofs.palette.Goals as goal

pub returns : goal.returns
returns c = search (palette-is, rules)
