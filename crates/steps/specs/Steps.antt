-- The steps of a line before its start: 01 "Sheet program and host entry". Assumes nothing.
use Rattle.std.specs.Prelude.{ℕ, zero, suc, ◌+◌, List, [], ◌∷◌, ◌++◌, eqb}
use Rattle.lists.specs.Choice.{choose}
use Rattle.answers.specs.Answers.{done}
use Rattle.display.specs.declared.Display.{Display}
use Rattle.display.specs.declared.Told.{Told}
use Rattle.display.specs.State.{write_of, select_of}
use Rattle.display.specs.Put.{put_of, put_tables}
use Rattle.steps.specs.Form.{byte_at, count_at, word_at, loads_of, writes_place}

-- a step: one call of the display
pub data Act : Type 0 where
  select : ℕ → Act
  put : ℕ → Act
  write : ℕ → ℕ → Act

-- a line that is being done: the state with the first refusal or 0, and the tables
pub record Midway : Type 0 where
  pub told : Told
  pub tables : List ℕ

-- its two parts put together
abbrev pub midway : Told → List ℕ → Midway
midway r t = record { told = r; tables = t }

-- what a call leaves
abbrev pub act_of : Display → List ℕ → Act → Midway
act_of d t (select n) = midway (select_of d n) t
act_of d t (put x) = midway (put_of d t) (put_tables d t x)
act_of d t (write r v) = midway (write_of d r v) t

-- "After a refusal the line's other steps are left out"
unfoldable pub step_of : Midway → Act → Midway
step_of m s = choose (eqb m.told.answer done) (act_of m.told.state m.tables s) m

-- steps one after the other
unfoldable pub run_of : Midway → List Act → Midway
run_of m [] = m
run_of m (s ∷ rest) = run_of (step_of m s) rest

-- "bytes": the n bytes from a place on, each put
unfoldable pub puts_at : ℕ → List ℕ → ℕ → List Act
puts_at zero b at = []
puts_at (suc n) b at = put (byte_at b at) ∷ puts_at n b (at + 1)

-- "each load being selection (2), byte count (4), bytes": the load that begins at a place
unfoldable pub load_at : List ℕ → ℕ → List Act
load_at b at = select (byte_at b at) ∷ puts_at (count_at b (at + 1)) b (at + 3)

-- n loads, of which the first begins at a place
unfoldable pub loads_at : ℕ → List ℕ → ℕ → List Act
loads_at zero b at = []
loads_at (suc n) b at = load_at b at ++ loads_at n b (at + 3 + count_at b (at + 1))

-- "each register (2), value (8)": n writes, of which the first begins at a place
unfoldable pub writes_at : ℕ → List ℕ → ℕ → List Act
writes_at zero b at = []
writes_at (suc n) b at = write (byte_at b at) (word_at b (at + 1)) ∷ writes_at n b (at + 5)

-- "Loads, writes, .. in that order."
unfoldable pub steps_of : List ℕ → List Act
steps_of b = loads_at (loads_of b) b 1 ++ writes_at (byte_at b (writes_place b)) b (writes_place b + 1)
