-- A sheet that comes in blocks of bytes: what one call makes of the bytes that are left of a block.
-- The laws that tie it to `Sheet` are proved in `proofs/`. Assumes nothing.
use Rattle.std.specs.Prelude.{ℕ, zero, suc, ◌+◌, Bool, false, List, [], ◌++◌, length, take, drop, ltb, leb, eqb}
use Rattle.lists.specs.Choice.{choose, both}
use Rattle.lists.specs.Over.{over}
use Rattle.profiles.specs.Profile.{one_bit}
use Rattle.display.specs.declared.Display.{Display}
use Rattle.display.specs.State.{fresh}
use Rattle.texts.specs.Lines.{ends_in, line_in, held_in, used_in}
use Rattle.line.specs.Sizes.{most_printed}
use Rattle.line.specs.Line.{Ran, idle, line_of}
use Rattle.lines.specs.declared.blocks.Going.{Going}
use Rattle.lines.specs.declared.blocks.Fed.{Fed}
use Rattle.lines.specs.Sizes.{most_kept, out_len}

-- ---- one line at most

-- "Lines end with a line feed": a line that began with x is done once it has ended in the bytes l; until then
-- nothing is done, and nothing printed
unfoldable pub fed_run : Display → List ℕ → List ℕ → List ℕ → Ran
fed_run d t x l = choose (ends_in l) (line_of d t (line_in most_kept x l)) (idle d t)

-- "a last line without one counts if it has any byte": x is what has come of it
unfoldable pub last_run : Display → List ℕ → List ℕ → Ran
last_run d t x = choose (eqb (length x) 0) (idle d t) (line_of d t x)

-- ---- a batch of lines

-- "State and tables, all zero at first"; 02 K2: "the sheet program has one" bit a glyph pixel; K7: it has "no such buffer" as
-- float layers ask: where a sheet begins, nothing has come of a line
abbrev pub begun : Going
begun = record { state = fresh (one_bit false); held = 0 }

-- what has come of the next line, in the buffer u
abbrev pub line_begun : Going → List ℕ → List ℕ
line_begun g u = take g.held u

-- lines fed one after the other from one block: what goes on, the tables, the buffer of the text, how
-- many bytes of the block are used up, and what is printed
pub record Batch : Type 0 where
  pub going : Going
  pub tables : List ℕ
  pub text : List ℕ
  pub used : ℕ
  pub printed : List ℕ

-- what has come of its next line
abbrev pub open_of : Batch → List ℕ
open_of b = line_begun b.going b.text

-- the bytes of the block l that are left
abbrev pub rest_of : List ℕ → Batch → List ℕ
rest_of l b = drop b.used l

-- one line more, at most
unfoldable pub next_run : List ℕ → Batch → Ran
next_run l b = fed_run b.going.state b.tables (open_of b) (rest_of l b)

-- what it leaves
unfoldable pub turn_of : List ℕ → Batch → Batch
turn_of l b =
    record {
      going = record { state = (next_run l b).state; held = length (held_in most_kept (open_of b) (rest_of l b)) };
      tables = (next_run l b).tables;
      text = over (line_in most_kept (open_of b) (rest_of l b)) b.text;
      used = b.used + used_in (rest_of l b);
      printed = b.printed ++ (next_run l b).printed;
    }

-- whether another is fed, of n bytes: while some are left, and its answer is sure to have room
unfoldable pub goes_on : ℕ → ℕ → ℕ → Bool
goes_on n used count = both (ltb used n) (leb (count + most_printed) out_len)

-- n lines more at most
unfoldable pub turns_of : ℕ → List ℕ → Batch → Batch
turns_of zero l b = b
turns_of (suc n) l b = choose (goes_on (length l) b.used (length b.printed)) (turns_of n l (turn_of l b)) b

-- a call on the block l: a line uses up a byte at least, so there are no more lines than bytes
unfoldable pub feed_of : Going → List ℕ → List ℕ → List ℕ → Batch
feed_of g t u l = turns_of (length l) l (record { going = g; tables = t; text = u; used = 0; printed = [] })

-- what it answers
abbrev pub fed_of : Batch → Fed
fed_of b = record { going = b.going; used = b.used; count = length b.printed }

-- the end of a sheet
abbrev pub finish_of : Going → List ℕ → List ℕ → Ran
finish_of g t u = last_run g.state t (line_begun g u)
