-- What put answers and leaves, in the state and in the tables: 01 "Tables", "Answers by number", with the geometry of the
-- state's bits a glyph pixel. Assumes nothing.
use Rattle.std.specs.Prelude.{ℕ, ◌+◌, ◌*◌, ◌^◌, List, length, ◌==◌, bit_or, nat_lt, slice_set}
use Rattle.lists.specs.Choice.{pick, choose, or_else}
use Rattle.answers.specs.Answers.{done, not_selected, bank_active, bank_full, tables_length}
use Rattle.tables.specs.Geometry.{tables_len}
use Rattle.tables.specs.Selection.{controller_of, end_of, first_byte_of, named_by}
use Rattle.display.specs.declared.Display.{Display}
use Rattle.display.specs.declared.Told.{Told}
use Rattle.display.specs.State.{bits_in, with_errors, with_place, told}

-- "Order: put 6, 3, 4, 5.": "tables not 29,696 bytes" (02 K2: "6 compares with the chosen length"), "nothing selected",
-- "the active word 3 names the selected bank", "place is at the kind's end"
unfoldable pub put_answer : Display → List ℕ → ℕ
put_answer d tables =
    or_else (pick (length tables == tables_len (bits_in d)) done tables_length)
    (or_else (pick d.selection.made done not_selected)
    (or_else (pick (named_by d.active d.selection.number) bank_active done)
    (pick (nat_lt d.selection.place (end_of (bits_in d) d.selection.number)) done bank_full)))

-- "Each put stores one byte and moves the place by one."; 5: "error bit 4g+1 set, else unchanged"; the
-- others: "all unchanged"
unfoldable pub put_state : Display → ℕ → Display
put_state d answer =
    choose (answer == done) (with_place d (d.selection.place + 1))
    (choose (answer == bank_full)
    (with_errors d (bit_or d.errors (2 ^ (4 * controller_of d.selection.number + 1)))) d)

-- what put answers, and the state that it leaves
unfoldable pub put_of : Display → List ℕ → Told
put_of d tables = told (put_state d (put_answer d tables)) (put_answer d tables)

-- the tables that it leaves: the byte at the place, counted from the selected table's first byte
unfoldable pub put_tables : Display → List ℕ → ℕ → List ℕ
put_tables d tables byte =
    choose (put_answer d tables == done)
    (slice_set tables (first_byte_of (bits_in d) d.selection.number + d.selection.place) byte) tables
