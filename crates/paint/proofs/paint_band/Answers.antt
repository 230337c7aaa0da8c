-- `paint::paint_band` meets its contract: it is the part of all lines, refused as a band is, with the profile's bits.
-- Assumes nothing.
use Rattle.order.proofs.LayoutLaws.{held_bytes, held-floats}
use Rattle.paint.specs.Given.{scene_in}
use Rattle.paint.proofs.PartLaws.{whole-fits, whole-refused, whole-done}
use Rattle.paint.proofs.paint_band.Goals as goal

pub paint_refusal-requires : goal.paint_refusal-requires
paint_refusal-requires c =
    let held = c.args.scene.now.arranged in (c.bits_of-bits.ensures.2, held_bytes _ _ held, held-floats _ _ held)

pub returns-in_err-paint_refusal : goal.returns-in_err-paint_refusal
returns-in_err-paint_refusal c =
    let long = c.lengths.ensures in
    let r = whole-refused (scene_in c.args.scene.now) _ _ c.args.fresh _ _ _ _
    (rw (c.bits_of-bits.ensures.0, long.tables, long.pictures, long.floats) at c.in_err-paint_refusal.ensures) c.from_residual.ensures.1 in
    record { told = r.0; output = r.1 }

pub paint_part-requires : goal.paint_part-requires
paint_part-requires c =
    let long = c.lengths.ensures in
    rw (c.from.ensures, c.screen_height.ensures)
    (whole-fits (scene_in c.args.scene.now) _ _ c.args.fresh _
    (rw (c.bits_of-bits.ensures.0, long.tables, long.pictures, long.floats) at c.in_ok-paint_refusal.ensures))

pub returns : goal.returns
returns c =
    let long = c.lengths.ensures in
    let painted = rw (c.from.ensures, c.screen_height.ensures) at c.paint_part.ensures in
    let r = whole-done (scene_in c.args.scene.now) _ _ c.args.fresh _ _ _ _
    (rw (c.bits_of-bits.ensures.0, long.tables, long.pictures, long.floats) at c.in_ok-paint_refusal.ensures)
    painted.errors painted.output in
    record { told = r.0; output = r.1 }
