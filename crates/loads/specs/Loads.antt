-- A run of puts by the part of it that fits, and a run of writes by the pending words alone. Assumes nothing.
use Rattle.std.specs.Prelude.{ℕ, ◌+◌, ◌-◌, ◌*◌, ◌^◌, min, Bool, List, ◌++◌, length, take, drop, set, ltb, eqb}
use Rattle.std.specs.Int.Bits.{bit_or}
use Rattle.lists.specs.Choice.{pick, choose, or_else}
use Rattle.lists.specs.Over.{over}
use Rattle.answers.specs.Answers.{done, no_register, not_selected, bank_active, bank_full, tables_length}
use Rattle.tables.specs.Geometry.{tables_len}
use Rattle.tables.specs.Selection.{controller_of, end_of, first_byte_of, named_by}
use Rattle.tables.specs.declared.Selection.{Selection}
use Rattle.runs.specs.Run.{One, one, Many, run_of}
use Rattle.runs.specs.Writes.{Write, writes_in}
use Rattle.loads.specs.declared.Loaded.{Loaded}
use Rattle.loads.specs.declared.Went.{Went}

-- ---- puts

-- what a put is refused with whatever its place: of the bits a glyph pixel has, the active words, the selection, and the
-- tables' length
unfoldable pub refusal_of : ℕ → List ℕ → Bool → ℕ → ℕ → ℕ
refusal_of bits active made number long =
    or_else (pick (eqb long (tables_len bits)) done tables_length)
    (or_else (pick made done not_selected) (pick (named_by active number) bank_active done))

-- the same of a run of n bytes: an empty one is not refused
unfoldable pub refusal_for : ℕ → List ℕ → Selection → ℕ → ℕ → ℕ
refusal_for bits active s long n = pick (eqb n 0) done (refusal_of bits active s.made s.number long)

-- how many of n bytes fit from a place on
abbrev pub fits_of : ℕ → ℕ → ℕ → ℕ → ℕ
fits_of bits place number n = min n (end_of bits number - place)

-- a list with bytes in place of those from a place on
unfoldable pub stored : List ℕ → ℕ → List ℕ → List ℕ
stored tables at bytes = take at tables ++ over bytes (drop at tables)

-- the parts of an answer
abbrev pub loaded : ℕ → ℕ → ℕ → ℕ → Loaded
loaded place errors answer count = record { place = place; errors = errors; answer = answer; done = count }

-- what n bytes leave and answer where none is refused but for the table's end
unfoldable pub fitted : ℕ → ℕ → Selection → ℕ → Loaded
fitted bits errors s n =
    choose (eqb (fits_of bits s.place s.number n) n) (loaded (s.place + n) errors done n)
    (loaded (s.place + fits_of bits s.place s.number n) (bit_or errors (2 ^ (4 * controller_of s.number + 1)))
    bank_full (fits_of bits s.place s.number n))

-- and where they may be
unfoldable pub load_of : ℕ → List ℕ → ℕ → Selection → ℕ → ℕ → Loaded
load_of bits active errors s long n =
    choose (eqb (refusal_for bits active s long n) done) (fitted bits errors s n)
    (loaded s.place errors (refusal_for bits active s long n) 0)

-- the tables: those bytes of the run that fit, where nothing refuses them
unfoldable pub load_tables : ℕ → List ℕ → Selection → List ℕ → List ℕ → List ℕ
load_tables bits active s tables run =
    choose (eqb (refusal_for bits active s (length tables) (length run)) done)
    (stored tables (first_byte_of bits s.number + s.place) (take (fits_of bits s.place s.number (length run)) run))
    tables

-- ---- writes

-- one write, of the pending words alone
abbrev pub write_word : List ℕ → Write → One (List ℕ)
write_word pending w =
    choose (ltb w.register 52) (one (set pending w.register w.value) done) (one pending no_register)

-- all of a run
unfoldable pub writes_of : List ℕ → List ℕ → Many (List ℕ)
writes_of pending run = run_of write_word pending (writes_in run)

-- what is answered
abbrev pub went_of : Many (List ℕ) → Went
went_of r = record { answer = r.answer; done = r.count }
