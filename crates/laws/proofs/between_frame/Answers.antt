-- `laws::between_frame` meets its contract: by the law of `frame`'s bytes, since lent buffers are of bytes.
-- Assumes nothing.
use Rattle.laws.proofs.Calls.{between-frame}
use Rattle.laws.proofs.between_frame.Goals as goal

pub returns : goal.returns
returns c framing =
    rw c.frame.ensures.output
    (between-frame _ _ _ _ _ framing
    (λ i. (c.type_inv.tables i).fits)
    (λ i. (c.type_inv.pictures i).fits))
