-- What a worker of `src/lib.rt` leaves. Assumes nothing.
use Rattle.std.specs.Prelude.{ℕ, ◌≤◌, ◌≡◌, List, take}
use Rattle.line.specs.declared.Replied.{Replied}
use Rattle.line.specs.Sizes.{most_reply}
use Rattle.line.specs.Line.{Outcome}

-- an outcome, with r answered, the tables t and the buffer u at exit: the reply stands at u's front
pub record Leaves (o : Outcome) (r : Replied) (t u : List ℕ) : Type 0 where
  pub state : r.state ≡ o.state
  pub tables : t ≡ o.tables
  pub reply : take r.count u ≡ o.reply
  pub fits : r.count ≤ most_reply
