-- The four kinds of table that a bank holds, by number. Assumes nothing.
use Rattle.std.specs.Prelude.{ℕ}
use Rattle.words.specs.declared.kinds.Kind.{Kind}
use Rattle.words.specs.declared.kinds.Kind.TheVariants.{List, Colours, Strings, Font}

-- 01 "Tables": "kind (0 instruction, 1 colour, 2 text, 3 font)"
abbrev pub kind_number : Kind → ℕ
kind_number List = 0
kind_number Colours = 1
kind_number Strings = 2
kind_number Font = 3
