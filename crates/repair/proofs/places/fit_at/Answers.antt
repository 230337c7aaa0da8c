-- `repair::places::fit_at` meets its contract: the test chooses as `fit_at` does. Assumes nothing.
use Rattle.repair.proofs.PlaceLaws.{fields-lt}
use borrow.Author.Rules.{rules}
use Rattle.repair.proofs.places.fit_at.Goals as goal

pub fit_in-requires : goal.fit_in-requires
fit_in-requires c = let b = fields-lt c.args.w c.args.n in (
  search rules,
  rw c.layer_of-l.ensures b.0,
  rw c.layer_of-l.ensures b.1,
  rw c.layer_of-l.ensures b.2,
  rw c.layer_of-l.ensures b.3,
)
