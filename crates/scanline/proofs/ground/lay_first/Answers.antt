-- `scanline::ground::lay_first` meets its contract: with the first layer laid, one layer lies over the
-- ground; else none does. Assumes nothing.
use mathlib.Core.Path.{sym, ◌∙◌}
use native.Mathlib.Omega.{arith}
use Rattle.lists.proofs.Tab.{length-each}
use Rattle.scanline.proofs.LineLaws.{line-none, line-next}
use Rattle.scanline.proofs.GroundLaws.{under-kept, whole-line}
use Rattle.scanline.proofs.ground.lay_first.Goals as goal

pub returns-in_default-clause-laid : goal.returns-in_default-clause-laid
returns-in_default-clause-laid c =
    record { over = λ s l same long of. (rw c.in_default.is (under-kept _)) ∙ line-none s _ l _ }

pub lay_layer-requires-clause-on_row : goal.lay_layer-requires-clause-on_row
lay_layer-requires-clause-on_row c =
    let a = c.requires.pixel_len_len in
    let whole = whole-line _ _ _ (sym c.is_whole_line.ensures ∙ c.if-is_whole_line.true) in
    (whole.1, omega (arith, whole.0, a.0), a.1 c.if-count-gt0.true)

pub lay_layer-requires-clause-line_in_bounds : goal.lay_layer-requires-clause-line_in_bounds
lay_layer-requires-clause-line_in_bounds c =
    let some = c.if-count-gt0.true in
    (c.requires.pixel_len_len.2 some, λ g. c.requires.first_drawn some g _ c.in-Some.is)

pub returns-then-is_whole_line-clause-laid : goal.returns-then-is_whole_line-clause-laid
returns-then-is_whole_line-clause-laid c =
    record {
      over = λ s l same long of.
          let first = of c.if-count-gt0.true in
          rw c.in-Some.is
          (line-next s _ l _ _ _ 0 _ first.some first.number (line-none s _ l _)
          (c.lay_layer.ensures.over s same
          (length-each _ _ ∙ sym (length-each _ _) ∙ long) first.layer));
    }

-- ---- the ground alone

pub returns-clause-laid : goal.returns-clause-laid
returns-clause-laid c = record { over = λ s l same long of. rw c.in-Some.is c.lay_ground.ensures ∙ line-none s _ l _ }
