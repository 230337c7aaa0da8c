-- A sheet cut into lines, and what they print: 01 "Sheet program and host entry", "reads lines of
-- hexadecimal, one frame a line". Assumes nothing.
use Rattle.std.specs.Prelude.{ℕ, false, List, [], ◌∷◌, ◌++◌}
use Rattle.profiles.specs.Profile.{one_bit}
use Rattle.tables.specs.Geometry.{tables_len}
use Rattle.display.specs.declared.Display.{Display}
use Rattle.display.specs.State.{fresh}
use Rattle.texts.specs.Lines.{lines_from}
use Rattle.line.specs.Line.{zeros, Ran, idle, line_of}

-- one run, and then another: it prints the more
abbrev pub after : List ℕ → Ran → Ran
after printed r = record { state = r.state; tables = r.tables; printed = printed ++ r.printed }

-- "State and tables .. carry over from line to line."
unfoldable pub lines_of : Display → List ℕ → List (List ℕ) → Ran
lines_of d t [] = idle d t
lines_of d t (x ∷ rest) = after (line_of d t x).printed (lines_of (line_of d t x).state (line_of d t x).tables rest)

-- a sheet that finds this state and these tables
unfoldable pub sheet_of : Display → List ℕ → List ℕ → Ran
sheet_of d t bytes = lines_of d t (lines_from [] bytes)

-- "State and tables, all zero at first"; 02 K2: "the sheet program has one" bit a glyph pixel: the tables
abbrev pub first_tables : List ℕ
first_tables = zeros (tables_len 1)

-- what the program prints; 02 K7: it has "no such buffer" as float layers ask
unfoldable pub program_of : List ℕ → List ℕ
program_of bytes = (sheet_of (fresh (one_bit false)) first_tables bytes).printed
