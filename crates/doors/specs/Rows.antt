-- Calls in a row on one lent state, by C through the doors and by Rattle on a display. Assumes nothing.
use Rattle.std.specs.Prelude.{ℕ, ◌^◌, ◌<◌, ◌≡◌, true, List, [], ◌∷◌, Float, length, get_or}
use Rattle.display.specs.declared.Display.{Display}
use Rattle.display.specs.declared.Told.{Told}
use Rattle.display.specs.State.{new_of, write_of, select_of, toggle_of, start_of}
use Rattle.display.specs.Put.{put_of, put_tables}
use Rattle.display.specs.Runs.{told_by, put_run_of, put_run_tables, write_run_of}
use Rattle.display.specs.Paint.{fill_told, fill_bytes, paint_told, paint_bytes, frame_told, frame_bytes, line_told, line_bytes}
use Rattle.display.specs.Reached.{Arranged}
use Rattle.display.specs.Doors.{state_bytes, door_answer, door_state, door_buffer, door_read}

-- ---- a state and its bytes

-- each number of a list is below 2^32
abbrev pub AreWords : List ℕ → Type 0
AreWords l = (i : ℕ) → get_or l i 0 < 2 ^ 32

-- a state whose numbers fit their words, as the types of its parts have it, and that holds what its active words say
pub record Fits (d : Display) : Type 0 where
  pub pending : length d.pending ≡ 52
  pub active : length d.active ≡ 52
  pub pending-words : AreWords d.pending
  pub active-words : AreWords d.active
  pub frame : d.frame < 2 ^ 32
  pub errors : d.errors < 2 ^ 32
  pub number : d.selection.number < 2 ^ 32
  pub place : d.selection.place < 2 ^ 32
  pub arranged : Arranged d

-- lent bytes that hold a display
pub record Holds (s : List ℕ) (d : Display) : Type 0 where
  pub bytes : s ≡ state_bytes d
  pub fits : Fits d

-- ---- a call, by the values of its arguments

-- each call that changes a state or a buffer
pub data Ask : Type 0 where
  ask-new : (bits : ℕ) → Ask
  ask-write : (register value : ℕ) → Ask
  ask-select : (selection : ℕ) → Ask
  ask-toggle : (bits : ℕ) → Ask
  ask-start : Ask
  ask-put : (tables : List ℕ) (byte : ℕ) → Ask
  ask-put-run : (tables run : List ℕ) → Ask
  ask-write-run : (run : List ℕ) → Ask
  ask-fill : (out : List ℕ) → Ask
  ask-paint : (low high : ℕ) (tables pictures : List ℕ) (floats : List Float) (out : List ℕ) → Ask
  ask-frame : (tables pictures : List ℕ) (floats : List Float) (out : List ℕ) → Ask
  ask-line : (y : ℕ) (tables pictures : List ℕ) (floats : List Float) (out : List ℕ) → Ask

-- numbers that become a part of the state have 32 bits, and bytes that do 8, as their types have it
abbrev pub Typed : Ask → Type 0
Typed (ask-write register value) = value < 2 ^ 32
Typed (ask-write-run run) = (i : ℕ) → get_or run i 0 < 256
Typed (ask-toggle bits) = bits < 2 ^ 32
Typed (ask-new bits) = Unit {0}
Typed (ask-select selection) = Unit {0}
Typed ask-start = Unit {0}
Typed (ask-put tables byte) = Unit {0}
Typed (ask-put-run tables run) = Unit {0}
Typed (ask-fill out) = Unit {0}
Typed (ask-paint low high tables pictures floats out) = Unit {0}
Typed (ask-frame tables pictures floats out) = Unit {0}
Typed (ask-line y tables pictures floats out) = Unit {0}

-- what the display's call answers and leaves of the state
abbrev pub tells_of : Ask → Display → Told
tells_of (ask-new bits) d = new_of bits true
tells_of (ask-write register value) d = write_of d register value
tells_of (ask-select selection) d = select_of d selection
tells_of (ask-toggle bits) d = toggle_of d bits
tells_of ask-start d = start_of d
tells_of (ask-put tables byte) d = put_of d tables
tells_of (ask-put-run tables run) d = told_by (put_run_of d tables run)
tells_of (ask-write-run run) d = told_by (write_run_of d run)
tells_of (ask-fill out) d = fill_told d out
tells_of (ask-paint low high tables pictures floats out) d = paint_told d low high tables pictures floats out
tells_of (ask-frame tables pictures floats out) d = frame_told d tables pictures floats out
tells_of (ask-line y tables pictures floats out) d = line_told d y tables pictures floats out

-- the buffer that it writes, as it is lent; none is an empty one
abbrev pub lent_to : Ask → List ℕ
lent_to (ask-new bits) = []
lent_to (ask-write register value) = []
lent_to (ask-select selection) = []
lent_to (ask-toggle bits) = []
lent_to ask-start = []
lent_to (ask-put tables byte) = tables
lent_to (ask-put-run tables run) = tables
lent_to (ask-write-run run) = []
lent_to (ask-fill out) = out
lent_to (ask-paint low high tables pictures floats out) = out
lent_to (ask-frame tables pictures floats out) = out
lent_to (ask-line y tables pictures floats out) = out

-- and as the call leaves it
abbrev pub left_by : Ask → Display → List ℕ
left_by (ask-new bits) d = []
left_by (ask-write register value) d = []
left_by (ask-select selection) d = []
left_by (ask-toggle bits) d = []
left_by ask-start d = []
left_by (ask-put tables byte) d = put_tables d tables byte
left_by (ask-put-run tables run) d = put_run_tables d tables run
left_by (ask-write-run run) d = []
left_by (ask-fill out) d = fill_bytes d out
left_by (ask-paint low high tables pictures floats out) d = paint_bytes d low high tables pictures floats out
left_by (ask-frame tables pictures floats out) d = frame_bytes d tables pictures floats out
left_by (ask-line y tables pictures floats out) d = line_bytes d y tables pictures floats out

-- how many items it tells that it has done; 0 where it tells none
abbrev pub count_by : Ask → Display → ℕ
count_by (ask-put-run tables run) d = (put_run_of d tables run).done
count_by (ask-write-run run) d = (write_run_of d run).done
count_by (ask-new bits) d = 0
count_by (ask-write register value) d = 0
count_by (ask-select selection) d = 0
count_by (ask-toggle bits) d = 0
count_by ask-start d = 0
count_by (ask-put tables byte) d = 0
count_by (ask-fill out) d = 0
count_by (ask-paint low high tables pictures floats out) d = 0
count_by (ask-frame tables pictures floats out) d = 0
count_by (ask-line y tables pictures floats out) d = 0

-- ---- a row of calls

-- what is seen of one: its answer, the count, and the buffer that it writes
pub record Seen : Type 0 where
  pub answer : ℕ
  pub count : ℕ
  pub buffer : List ℕ

-- one made of its three parts
abbrev pub seen_of : ℕ → ℕ → List ℕ → Seen
seen_of answer count buffer = record { answer = answer; count = count; buffer = buffer }

-- the state that a row of the display's calls leaves
abbrev pub state_after : List Ask → Display → Display
state_after [] d = d
state_after (a ∷ rest) d = state_after rest (tells_of a d).state

-- and what is seen of each
abbrev pub seen_after : List Ask → Display → List Seen
seen_after [] d = []
seen_after (a ∷ rest) d =
    seen_of (tells_of a d).answer (count_by a d) (left_by a d) ∷ seen_after rest (tells_of a d).state

-- the bytes that a row of calls through doors leaves
abbrev pub bytes_after : List Ask → List ℕ → List ℕ
bytes_after [] s = s
bytes_after (a ∷ rest) s = bytes_after rest (door_state s (tells_of a))

-- and what C sees of each
abbrev pub seen_by_c : List Ask → List ℕ → List Seen
seen_by_c [] s = []
seen_by_c (a ∷ rest) s =
    seen_of (door_answer s (tells_of a)) (door_read s (count_by a)) (door_buffer s (left_by a) (lent_to a))
    ∷ seen_by_c rest (door_state s (tells_of a))

-- a row whose numbers all have 32 bits
abbrev pub AllTyped : List Ask → Type 0
AllTyped [] = Unit {0}
AllTyped (a ∷ rest) = Typed a × AllTyped rest
