-- `sixteen::lanes::one_alpha` meets its contract: all words are one. Assumes nothing.
use Rattle.sixteen.proofs.LaneLaws.{lanes-same}
use Rattle.sixteen.proofs.lanes.one_alpha.Goals as goal

pub returns : goal.returns
returns c = lanes-same 32 c.args.a
