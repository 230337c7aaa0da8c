-- `order::pictures_of` meets its contract: the invariant is that the starts below n are written and the sums so far
-- are the next. Assumes nothing.
use Rattle.order.proofs.StartLaws.{StartsTo}
use Rattle.order.proofs.pictures_of.Given as goal

abbrev pub invariant-loop-n : goal.invariant-loop-n
invariant-loop-n l = StartsTo l.w l.pictures l.n
