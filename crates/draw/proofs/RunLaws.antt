-- Laws of a run. Assumes nothing.
use mathlib.Core.Path.{◌≡◌}
use Prim.Native.Nat.{ℕ, ◌≤◌, ◌<◌}
use borrow.Author.Tests.{le-leb, lt-leb, lt-ltb, le-ltb}
use Rattle.lists.proofs.Choice.{both-none}
use Rattle.draw.specs.Engine.Rows.{run_after}

module _ (a e colour u old : ℕ) where
  pub run_in : a ≤ u → u < e → run_after a e colour u old ≡ colour
  unfolding run_after
  run_in from to = simp (le-leb a u from, lt-ltb u e to)

  pub run-left : u < a → run_after a e colour u old ≡ old
  unfolding run_after
  run-left h = simp (lt-leb a u h)

  pub run-right : e ≤ u → run_after a e colour u old ≡ old
  unfolding run_after
  run-right h = simp (le-ltb u e h, both-none)
