-- What a line leaves and prints: 01 "Sheet program and host entry". Assumes nothing.
use Rattle.std.specs.Prelude.{ℕ, ◌+◌, ◌*◌, List, [], ◌∷◌, ◌++◌, length, drop, replicate, eqb, leb}
use Rattle.lists.specs.Choice.{pick, choose, both, or_else}
use Rattle.answers.specs.Answers.{done}
use Rattle.mix.specs.Pixel.{pixel_len}
use Rattle.words.specs.Fields.{width_of, height_of}
use Rattle.display.specs.declared.Display.{Display}
use Rattle.display.specs.declared.Told.{Told}
use Rattle.display.specs.State.{told, start_of}
use Rattle.display.specs.Paint.{frame_told, frame_bytes}
use Rattle.hexadecimal.specs.Hex.{is_hex, bytes_in}
use Rattle.texts.specs.Replies.{two_bytes, four_bytes, bad_form, reply_text}
use Rattle.steps.specs.Form.{picture_place, is_formed}
use Rattle.steps.specs.Steps.{Midway, midway, run_of, steps_of}
use Rattle.line.specs.declared.Printed.{Printed}
use Rattle.line.specs.Sizes.{most_digits, most_lent}

-- "Loads, writes, start, ..". "After a refusal the line's other steps are left out, except the start,
-- done once for each well formed line." "A refusal prints the first number met."
unfoldable pub started_of : Told → Told
started_of r = told (start_of r.state).state (or_else r.answer (start_of r.state).answer)

-- "all zero": n bytes
unfoldable pub zeros : ℕ → List ℕ
zeros n = replicate n 0

-- "At most 4,096 output bytes are lent; larger screens answer 13 (0D).": how many to a screen of this
-- width and height, as many as it has where that is not more
abbrev pub lent_for : ℕ → ℕ → ℕ
lent_for w h = pick (leb (pixel_len * (w * h)) most_lent) (pixel_len * (w * h)) most_lent

-- they are zeros
unfoldable pub lent_of : Display → List ℕ
lent_of d = zeros (lent_for (width_of d.active) (height_of d.active))

-- ".. whole frame, in that order": left out after a refusal, of the start too; 02 K7: it has "no such buffer" as float layers
-- ask
unfoldable pub framed_of : Told → List ℕ → List ℕ → Told
framed_of r t p = choose (eqb r.answer done) (frame_told r.state t p [] (lent_of r.state)) r

-- the frame's bytes
unfoldable pub painted_of : Told → List ℕ → List ℕ → List ℕ
painted_of r t p = frame_bytes r.state t p [] (lent_of r.state)

-- "after 00 also error word (8), width (4), height (4), bytes": of the state that the frame leaves
abbrev pub head_of : Display → List ℕ
head_of d = four_bytes d.errors ++ two_bytes (width_of d.active) ++ two_bytes (height_of d.active)

-- "It prints one line: answer (2); after 00 also .."
unfoldable pub reply_of : Told → List ℕ → List ℕ
reply_of r bytes = r.answer ∷ choose (eqb r.answer done) (head_of r.state ++ bytes) []

-- what a line leaves, state and tables, and the bytes of its reply
pub record Outcome : Type 0 where
  pub state : Display
  pub tables : List ℕ
  pub reply : List ℕ

-- "A badly formed, empty or too long line prints FE and does nothing."
abbrev pub bad_of : Display → List ℕ → Outcome
bad_of d t = record { state = d; tables = t; reply = bad_form ∷ [] }

-- after the steps: start, frame, reply
unfoldable pub closed_of : Midway → List ℕ → Outcome
closed_of m p =
    record {
      state = (framed_of (started_of m.told) m.tables p).state;
      tables = m.tables;
      reply = reply_of (framed_of (started_of m.told) m.tables p) (painted_of (started_of m.told) m.tables p);
    }

-- a well formed line's bytes, with the picture bytes behind their count
unfoldable pub work_of : Display → List ℕ → List ℕ → Outcome
work_of d t b = closed_of (run_of (midway (told d done) t) (steps_of b)) (drop (picture_place b + 2) b)

-- a line's bytes
unfoldable pub done_of : Display → List ℕ → List ℕ → Outcome
done_of d t b = choose (is_formed b) (work_of d t b) (bad_of d t)

-- a line's text, "at most 8,192 digits"
unfoldable pub outcome_of : Display → List ℕ → List ℕ → Outcome
outcome_of d t text = choose (both (leb (length text) most_digits) (is_hex text)) (done_of d t (bytes_in text)) (bad_of d t)

-- what a run leaves, state and tables, and the text that it prints
pub record Ran : Type 0 where
  pub state : Display
  pub tables : List ℕ
  pub printed : List ℕ

-- a run of no line
abbrev pub idle : Display → List ℕ → Ran
idle d t = record { state = d; tables = t; printed = [] }

-- a run of one line
unfoldable pub line_of : Display → List ℕ → List ℕ → Ran
line_of d t text =
    record {
      state = (outcome_of d t text).state;
      tables = (outcome_of d t text).tables;
      printed = reply_text (outcome_of d t text).reply;
    }

-- what it answers
abbrev pub printed_of : Ran → Printed
printed_of r = record { state = r.state; count = length r.printed }
