-- `scanline::picture::lay_run` meets its contract: the row of one colour is the ground. Assumes nothing.
use mathlib.Core.Path.{ap, ◌∙◌}
use Rattle.lists.specs.Tab.{each}
use Rattle.scanline.proofs.GroundLaws.{under-kept, under-filled}
use Rattle.scanline.proofs.picture.lay_run.Goals as goal

pub returns-in-Some : goal.returns-in-Some
returns-in-Some c = rw c.in-Some.is (c.lay_either.ensures ∙ ap (each _) (under-filled _ _))

pub returns : goal.returns
returns c = rw c.in_default.is (c.over.ensures ∙ ap (each _) (under-kept _))
