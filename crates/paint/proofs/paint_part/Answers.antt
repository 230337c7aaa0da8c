-- `paint::paint_part` meets its contract: with the display off there is the ground alone; else the rows hold the part
-- and the plan's error word is its band's. Assumes nothing.
use mathlib.Core.Path.{refl, sym, ◌∙◌}
use native.Mathlib.Omega.{arith}
use Rattle.lists.proofs.Tab.{each-cong}
use Rattle.words.specs.Fields.{width_of, grounds_of}
use Rattle.frames.proofs.LineLaws.{four}
use Rattle.plan.proofs.PlanLaws.{marks-is}
use Rattle.scanline.proofs.FitLaws.{part-ready}
use Rattle.scanline.proofs.GroundLaws.{under-is}
use Rattle.paint.specs.Given.{scene_in}
use Rattle.paint.proofs.GroundLaws.{ground-byte}
use Rattle.paint.proofs.PartLaws.{part_off, part-on}
use Rattle.paint.proofs.paint_part.Goals as goal

pub lay_ground-requires : goal.lay_ground-requires
lay_ground-requires c = rw c.requires.long (omega (arith, four c.args.part.count (width_of c.args.scene.now.words.now)))

pub returns-then-not-is_shown : goal.returns-then-not-is_shown
returns-then-not-is_shown c =
    let w = c.args.scene.now.words.now in
    let off = sym c.is_shown.ensures ∙ c.if-not-is_shown.true in
    let e = c.ground_if.ensures in
    let r =
    part_off _ c.args.part c.args.fresh _ _ _ off
    (c.lay_ground.ensures
    ∙ each-cong _ _ c.args.out.now (λ i p. under-is _ (grounds_of w) e.backed i p ∙ ground-byte w _ i p ∙ rw e.fresh refl)) in
    record { errors = r.0; output = r.1 }

pub plan_of-plan-requires : goal.plan_of-plan-requires
plan_of-plan-requires c =
    let bits = c.bits_of-bits.ensures in
    (bits.2, c.args.scene.now.arranged, rw bits.0 c.requires.lent.tables)

-- ---- the plan, with the profile's bits

pub paint_rows-requires-clause-all_fit : goal.paint_rows-requires-clause-all_fit
paint_rows-requires-clause-all_fit c =
    part-ready _ _ _ c.requires.lent (rw c.bits_of-bits.ensures.0 at c.plan_of-plan.ensures.layers)

pub returns : goal.returns
returns c =
    let a = c.requires in
    let scene = scene_in c.args.scene.now in
    let bits = c.bits_of-bits.ensures.0 in
    let on = sym c.is_shown.ensures ∙ c.if-not-is_shown.false in
    let r =
    part-on scene c.args.part c.args.fresh _ _ _ _ on ((rw bits at c.plan_of-plan.ensures.errors) ∙ marks-is _ _ _ _ a.low a.high)
    (c.paint_rows.ensures.laid scene
    (refl, record { draws = refl; shows = refl; flows = refl })
    (record { order = a.low; end = a.high; planned = rw bits at c.plan_of-plan.ensures.layers })) in
    record { errors = r.0; output = r.1 }
