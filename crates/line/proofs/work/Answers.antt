-- `line::work` meets its contract: bad form does nothing; else steps, start and frame follow
-- each other, and the picture bytes are what is left behind their count. Assumes nothing.
use mathlib.Core.Path.{refl, ap}
use Rattle.steps.specs.declared.form.Parts.{Parts}
use Rattle.steps.proofs.FormLaws.{some-parts, picture-room, writes-room}
use Rattle.line.proofs.LineLaws.{reply-long, work-bad, work-is}
use Rattle.line.proofs.Arranged.{started-arranged, steps-arranged}
use Rattle.line.proofs.work.Goals as goal

pub refuse-requires : goal.refuse-requires
refuse-requires c = reply-long c.requires.1

pub returns-in_default : goal.returns-in_default
returns-in_default c = let a = c.args in
    work-bad a.state a.tables.now a.b.now _ _ _ c.in_default.ensures.value c.refuse.ensures

pub run-t-requires : goal.run-t-requires
run-t-requires c = let p = c.in-Ok.parts in let e = c.in-Ok.ensures in (
  ap (λ (q : Parts). q.writes) (some-parts c.args.b.now p e.value).1,
  e.small.0,
  writes-room c.args.b.now p e.value,
)

pub slice_bounds-frame-count : goal.slice_bounds-frame-count
slice_bounds-frame-count c = picture-room c.args.b.now c.in-Ok.parts c.in-Ok.ensures.value

pub slice_bounds-frame-start : goal.slice_bounds-frame-start
slice_bounds-frame-start c = picture-room c.args.b.now c.in-Ok.parts c.in-Ok.ensures.value

pub frame-requires : goal.frame-requires
frame-requires c = let a = c.args in (
  rw c.start-s.ensures
      (started-arranged _ (steps-arranged a.state a.tables.now _ a.b.now _
      c.run-t.ensures c.requires.0)),
  c.requires.1,
)

pub returns : goal.returns
returns c = let a = c.args in work-is a.state a.tables.now a.b.now c.in-Ok.parts _ _ _ _ _ _
    c.in-Ok.ensures.value c.run-t.ensures c.start-s.ensures refl c.frame.ensures
