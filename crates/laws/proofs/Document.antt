-- The document's own line, computed: 01 "Sheet program and host entry", "Input .. prints ..". Assumes
-- nothing.
use Prim.Native.Nat.{ℕ}
use mathlib.Core.Path.{◌≡◌}
use mathlib.Core.List.{List, [], ◌∷◌, ◌++◌}
use borrow.Author.Tests.{eq-eqb}
use lib.ListN.{length}
use Rattle.tables.specs.Geometry.{tables_len}
use Rattle.texts.specs.Lines.{lines_from}
use Rattle.line.specs.Line.{line_of}
use Rattle.lines.specs.Sheet.{lines_of, sheet_of, program_of}
use Rattle.laws.specs.Figures.{document_line, document_reply}
use Rattle.laws.specs.Small.{first, blank}
use Rattle.laws.proofs.Small.{line_open, blank-long}

-- a first line, with any tables of the right length
pub line_of-document : (t : List ℕ) → length t ≡ tables_len 1
    → (line_of first t document_line).printed ≡ document_reply ++ 10 ∷ []
unfolding line_open
line_of-document t long = rw (eq-eqb _ _ long)

-- and so a sheet of that line
pub program_of-document : program_of (document_line ++ 10 ∷ []) ≡ document_reply ++ 10 ∷ []
unfolding program_of sheet_of lines_of lines_from
program_of-document = rw (line_of-document blank blank-long)
