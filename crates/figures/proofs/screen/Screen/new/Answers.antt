-- `figures::screen::Screen::new` meets its contract: a fresh state has its layers arranged (`new-arranged`).
-- Assumes nothing.
use Rattle.figures.proofs.Kept.{kept}
use Rattle.figures.proofs.screen.Screen.new.Goals as goal

pub invariant_of-result : goal.invariant_of-result
invariant_of-result c = record { arranged = search kept }
