-- `span::grounded` meets its contract: the palette's bytes are laid as any run. Assumes nothing.
use Rattle.span.proofs.TintLaws.{grounded-is}
use Rattle.span.proofs.grounded.Goals as goal

pub returns : goal.returns
returns c = grounded-is _ _ _ _ _ _ _ _ _ c.bytes_of-own.ensures c.lay_either.ensures c.palette.ensures
