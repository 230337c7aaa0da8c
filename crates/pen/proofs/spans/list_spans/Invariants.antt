-- `list_spans` meets its contract: before each turn the first k instructions have their spans.
-- Assumes nothing.
use mathlib.Core.Path.{◌≡◌}
use lib.ListN.{length}
use Rattle.pen.specs.Engine.Spans.{Spanned}
use Rattle.pen.proofs.spans.list_spans.Given as goal

abbrev pub invariant-loop-k : goal.invariant-loop-k
invariant-loop-k l = (length l.spans ≡ length l.initial.spans) × Spanned l.ins l.k l.spans
