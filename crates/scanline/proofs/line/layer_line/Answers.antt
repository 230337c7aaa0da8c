-- `scanline::line::layer_line` meets its contract: beside the line the layer changes nothing; on it the layer's row lies
-- over its part of the line. Assumes nothing.
use mathlib.Core.Path.{sym, ap, ◌∙◌}
use Rattle.lists.specs.Tab.{each}
use Rattle.scanline.specs.Engine.Lines.{OnRow}
use Rattle.scanline.proofs.FitLaws.{on_row_lem}
use Rattle.scanline.proofs.GroundLaws.{under-kept}
use Rattle.scanline.proofs.LineLaws.{step-beside, step-over, laid-line}
use Rattle.scanline.proofs.line.layer_line.Goals as goal

pub returns-then-not-is_on_row : goal.returns-then-not-is_on_row
returns-then-not-is_on_row c = let beside = sym c.is_on_row.ensures ∙ c.if-not-is_on_row.true in
    record { over = λ s same long m. step-beside s _ _ m _ beside }

pub returns-then-step : goal.returns-then-step
returns-then-step c =
    let row : OnRow c.args.step.now c.args.y = on_row_lem _ _ (sym c.is_on_row.ensures ∙ c.if-not-is_on_row.false) in
    let laid = c.draw_over.ensures in
    record { over = λ s same long m. step-over s _ _ m row laid.row (laid.made.own s same.draws m) _ _ long laid.over }

pub returns : goal.returns
returns c =
    let row : OnRow c.args.step.now c.args.y = on_row_lem _ _ (sym c.is_on_row.ensures ∙ c.if-not-is_on_row.false) in
    let laid = c.lay_picture.ensures in
    laid-line _ _ _ _ _ row
    (record { row = laid.row; made = laid.made; over = laid.over ∙ ap (each _) (sym (under-kept _)) })
