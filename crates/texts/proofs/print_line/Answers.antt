-- `texts::print_line` meets its contract: the line feed is stored right behind the digits. Assumes
-- nothing.
use Rattle.texts.proofs.PrintLaws.{text-printed}
use Rattle.texts.proofs.print_line.Goals as goal

pub returns : goal.returns
returns c = text-printed _ _ _ c.requires c.print_bytes.ensures
