-- `draw_one` meets its contract: where the arms meet, the line is as the opcode's box has left it, and the text is
-- drawn over that. Assumes nothing.
use Rattle.pen.proofs.LineLaws.{Under, under-box, under-both, under-text, under_none, one-text, one_plain}
use Rattle.std.proofs.Common.{◌≡◌, arith}
use Rattle.pen.proofs.draw_one.Goals as goal
use Rattle.pen.proofs.draw_one.Goals.{in-10, in-12, in-14, in_default, in-0-to-9, in-0-to-9-2}

pub returns-then-text : goal.returns-then-text
returns-then-text c =
    let a = c.args in
    let met : Under a.banks.now.list.now a.k a.v c.opcode.result a.line.now c.match-opcode.line c.match-opcode.text =
    elim c.match-opcode.branch [
      | in-10 w ↦ under-box _ _ _ _ _ w.in-10.is w.draw_box.ensures w.line-is w.text-is
      | in-12 w ↦ under-text _ _ _ _ _ w.in-12.is w.line-is w.text-is
      | in-14 w ↦ under-both _ _ _ _ _ w.in-14.is w.draw_box-in-14.ensures w.line-is w.text-is
      | in_default w ↦ under_none _ _ _ _ _ (λ (e : c.opcode.result ≡ 10). omega arith) (λ (e : c.opcode.result ≡ 12). omega arith)
          (λ (e : c.opcode.result ≡ 14). omega arith) w.line-is w.text-is
      | in-0-to-9 w ↦ under_none _ _ _ _ _ (λ (e : c.opcode.result ≡ 10). grind arith) (λ (e : c.opcode.result ≡ 12). grind arith)
          (λ (e : c.opcode.result ≡ 14). grind arith) w.line-is w.text-is
      | in-0-to-9-2 w ↦ under_none _ _ _ _ _ (λ (e : c.opcode.result ≡ 10). omega arith) (λ (e : c.opcode.result ≡ 12). omega arith)
          (λ (e : c.opcode.result ≡ 14). omega arith) w.line-is w.text-is
    ] in
    one-text _ _ _ _ _ _ _ _ c.opcode.ensures met c.if-text.true c.draw_text.ensures

pub returns-else-text : goal.returns-else-text
returns-else-text c =
    let a = c.args in
    let met : Under a.banks.now.list.now a.k a.v c.opcode.result a.line.now c.match-opcode.line c.match-opcode.text =
    elim c.match-opcode.branch [
      | in-10 w ↦ under-box _ _ _ _ _ w.in-10.is w.draw_box.ensures w.line-is w.text-is
      | in-12 w ↦ under-text _ _ _ _ _ w.in-12.is w.line-is w.text-is
      | in-14 w ↦ under-both _ _ _ _ _ w.in-14.is w.draw_box-in-14.ensures w.line-is w.text-is
      | in_default w ↦ under_none _ _ _ _ _ (λ (e : c.opcode.result ≡ 10). omega arith) (λ (e : c.opcode.result ≡ 12). omega arith)
          (λ (e : c.opcode.result ≡ 14). omega arith) w.line-is w.text-is
      | in-0-to-9 w ↦ under_none _ _ _ _ _ (λ (e : c.opcode.result ≡ 10). grind arith) (λ (e : c.opcode.result ≡ 12). grind arith)
          (λ (e : c.opcode.result ≡ 14). grind arith) w.line-is w.text-is
      | in-0-to-9-2 w ↦ under_none _ _ _ _ _ (λ (e : c.opcode.result ≡ 10). omega arith) (λ (e : c.opcode.result ≡ 12). omega arith)
          (λ (e : c.opcode.result ≡ 14). omega arith) w.line-is w.text-is
    ] in
    one_plain _ _ _ _ _ _ _ _ c.opcode.ensures met c.if-text.false
