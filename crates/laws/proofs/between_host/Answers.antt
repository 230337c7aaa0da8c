-- `laws::between_host` meets its contract: by the law of the host entry's output, since lent buffers are of
-- bytes. Assumes nothing.
use Rattle.laws.proofs.Calls.{between-host}
use Rattle.laws.proofs.between_host.Goals as goal

pub returns : goal.returns
returns c hosting =
    rw c.spoonwing_frame.ensures.output
    (between-host _ _ _ _ _ hosting
    (λ i. (c.type_inv.tables i).fits)
    (λ i. (c.type_inv.pictures i).fits))
