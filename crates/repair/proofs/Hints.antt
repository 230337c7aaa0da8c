-- What the loops and tests of this crate ask over and over. Assumes nothing.
use Rattle.lists.proofs.Tests.{tests}
use Rattle.lists.proofs.First.{first-none, first_passes, first_ends}
use Rattle.lists.proofs.Upto.{upto-set, upto-none, upto_done}
use Rattle.lists.proofs.Zero.{zero-stops, zero-passes, zero-ends}
use Rattle.repair.proofs.ListLaws.{listed-long, listed-room}

pub ruleset turns = (
  first-none,
  first_passes,
  first_ends,
  upto-set,
  upto-none,
  upto_done,
  zero-stops,
  zero-passes,
  zero-ends,
  listed-long,
  listed-room,
  tests,
)
