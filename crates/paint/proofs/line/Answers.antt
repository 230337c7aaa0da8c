-- `paint::line` meets its contract: it is the part of one line, refused as a line is, with the profile's bits. Assumes
-- nothing.
use Rattle.order.proofs.LayoutLaws.{held_bytes, held-floats}
use Rattle.paint.specs.Given.{scene_in}
use Rattle.paint.proofs.PartLaws.{asked-fits, line-refused, line-done}
use Rattle.paint.proofs.line.Goals as goal

pub line_refusal-requires : goal.line_refusal-requires
line_refusal-requires c =
    let held = c.args.scene.now.arranged in (c.bits_of-bits.ensures.2, held_bytes _ _ held, held-floats _ _ held)

pub returns-in_err-line_refusal : goal.returns-in_err-line_refusal
returns-in_err-line_refusal c =
    let long = c.lengths.ensures in
    let r = line-refused (scene_in c.args.scene.now) _ _ _ _ _
    (rw (c.bits_of-bits.ensures.0, long.tables, long.pictures, long.floats) at c.in_err-line_refusal.ensures) c.from_residual.ensures.1 in
    record { told = r.0; output = r.1 }

pub paint_part-requires : goal.paint_part-requires
paint_part-requires c =
    let long = c.lengths.ensures in
    asked-fits (scene_in c.args.scene.now) _ _
    (rw (c.bits_of-bits.ensures.0, long.tables, long.pictures, long.floats) at c.in_ok-line_refusal.ensures)

pub returns : goal.returns
returns c =
    let long = c.lengths.ensures in
    let painted = c.paint_part.ensures in
    let r = line-done (scene_in c.args.scene.now) _ _ _ _ _
    (rw (c.bits_of-bits.ensures.0, long.tables, long.pictures, long.floats) at c.in_ok-line_refusal.ensures)
    painted.errors painted.output in
    record { told = r.0; output = r.1 }
