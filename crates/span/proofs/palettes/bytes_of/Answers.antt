-- `span::palettes::bytes_of` meets its contract: halves of the colours, stored. Assumes nothing.
use Rattle.span.proofs.TintLaws.{palette-bytes}
use Rattle.span.proofs.palettes.bytes_of.Goals as goal

pub returns : goal.returns
returns c = palette-bytes c.halves-h.ensures c.store.ensures
