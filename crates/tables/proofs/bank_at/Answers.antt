-- `tables::bank_at` meets its contract: a kind of a bank ends within the buffer. Assumes nothing.
use mathlib.Core.Path.{refl}
use Rattle.tables.proofs.Geometry.{bank-room}
use Rattle.tables.proofs.bank_at.Goals as goal

pub returns : goal.returns
returns c =
    rw (c.bank_len-bank_bytes.ensures.0, c.kind_at.ensures.0)
    (refl, bank-room c.args.bits c.args.controller c.args.bank _ c.requires.1 c.requires.2)
