-- `scanline::ground::lay_ground` meets its contract: a run is filled, or kept. Assumes nothing.
use mathlib.Core.Path.{◌∙◌}
use Rattle.scanline.proofs.GroundLaws.{under-kept, under-filled}
use Rattle.scanline.proofs.ground.lay_ground.Goals as goal

pub returns-in-Some : goal.returns-in-Some
returns-in-Some c = rw c.in-Some.is (c.fill.ensures ∙ under-filled _ _)

pub returns-in_default : goal.returns-in_default
returns-in_default c = rw c.in_default.is (under-kept _)
