-- `figures::screen::Screen::put_often` meets its contract: after i turns the byte was put i times more, and each put keeps
-- the layers arranged. Assumes nothing.
use mathlib.Core.Path.{◌≡◌}
use Rattle.display.specs.Reached.{Arranged}
use Rattle.figures.specs.Often.{often}
use Rattle.figures.proofs.screen.Screen.put_often.Given as goal

abbrev pub invariant-loop : goal.invariant-loop
invariant-loop l =
    Arranged l.told.state × (l.told ≡ (often l.counter l.self.display l.fn.tables l.byte).0)
    × (l.tables ≡ (often l.counter l.self.display l.fn.tables l.byte).1)
