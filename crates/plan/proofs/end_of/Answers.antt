-- `plan::end_of` meets its contract: the active list of layer n lies in the tables; a frame layer's is not asked.
-- Assumes nothing.
use native.Mathlib.Omega.{arith}
use Rattle.tables.specs.Geometry.{kind_len}
use Rattle.frames.specs.Pixel.{bank_bytes}
use Rattle.plan.proofs.end_of.Goals as goal

pub end_at-requires : goal.end_at-requires
unfolding kind_len
end_at-requires c = omega (arith, c.active_at-at.ensures.1)

pub returns-then-layer : goal.returns-then-layer
unfolding kind_len bank_bytes
returns-then-layer c = λ g. rw c.active_at-at.ensures.0 at c.end_at.ensures
