-- What a run of puts and a run of writes answer and leave: request K1, "We want one call that puts a whole run of
-- bytes, and one that makes a run of register writes." Assumes nothing.
use Rattle.std.specs.Prelude.{ℕ, List}
use Rattle.runs.specs.Run.{One, one, Many, run_of}
use Rattle.runs.specs.Writes.{Write, writes_in}
use Rattle.display.specs.declared.Display.{Display}
use Rattle.display.specs.declared.Told.{Told}
use Rattle.display.specs.declared.Ran.{Ran}
use Rattle.display.specs.State.{told, write_of}
use Rattle.display.specs.Put.{put_of, put_tables}

-- "It answers the refusal, or 0, and how many items were done before it"
abbrev pub ran : Display → ℕ → ℕ → Ran
ran d answer count = record { state = d; answer = answer; done = count }

-- the same without the count
abbrev pub told_by : Ran → Told
told_by r = told r.state r.answer

-- ---- a run of puts

-- what a put changes: the state, and the lent tables
pub record Lent : Type 0 where
  pub state : Display
  pub tables : List ℕ

-- its two parts put together
abbrev pub lent : Display → List ℕ → Lent
lent d tables = record { state = d; tables = tables }

-- the single call
abbrev pub put_one : Lent → ℕ → One Lent
put_one l byte =
    one (lent (put_of l.state l.tables).state (put_tables l.state l.tables byte))
    (put_of l.state l.tables).answer

-- made with each byte
unfoldable pub puts : Display → List ℕ → List ℕ → Many Lent
puts d tables run = run_of put_one (lent d tables) run

-- what it answers, and the state that it leaves
unfoldable pub put_run_of : Display → List ℕ → List ℕ → Ran
put_run_of d tables run =
    ran (puts d tables run).left.state (puts d tables run).answer (puts d tables run).count

-- the tables that it leaves
unfoldable pub put_run_tables : Display → List ℕ → List ℕ → List ℕ
put_run_tables d tables run = (puts d tables run).left.tables

-- ---- a run of writes

-- the single call
abbrev pub write_one : Display → Write → One Display
write_one d w = one (write_of d w.register w.value).state (write_of d w.register w.value).answer

-- made with each item
unfoldable pub writes : Display → List ℕ → Many Display
writes d run = run_of write_one d (writes_in run)

-- what it answers, and the state that it leaves
unfoldable pub write_run_of : Display → List ℕ → Ran
write_run_of d run = ran (writes d run).left (writes d run).answer (writes d run).count
