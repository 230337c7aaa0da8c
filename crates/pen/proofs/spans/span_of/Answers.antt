-- `span_of` meets its contract: each opcode's rows are those of its box, of its text, or of both. Assumes nothing.
use mathlib.Core.Path.{◌≡◌, refl}
use native.Mathlib.Omega.{arith}
use borrow.Author.Rules.{rules}
use Rattle.pen.proofs.SpanLaws.{span-box, span-text, span-both, span_none}
use Rattle.pen.proofs.spans.span_of.Goals as goal

pub returns-in-10 : goal.returns-in-10
returns-in-10 c = search (span-box, rules)

pub returns-in-12 : goal.returns-in-12
returns-in-12 c = search (span-text, rules)

pub returns-in-14 : goal.returns-in-14
returns-in-14 c = search (span-both, rules)

pub returns-in_default : goal.returns-in_default
returns-in_default c =
    span_none _ _ _ _ c.opcode.ensures (λ (e : c.opcode.result ≡ 10). omega arith)
    (λ (e : c.opcode.result ≡ 12). omega arith) (λ (e : c.opcode.result ≡ 14). omega arith) refl
