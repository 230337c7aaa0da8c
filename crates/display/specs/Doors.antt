-- The state as bytes that a C host lends, and what a call through a door answers and leaves. A door has the
-- name, the arguments and the meaning of a call of the display. Assumes nothing.
use Rattle.std.specs.Prelude.{ℕ, ◌+◌, ◌/◌, ◌%◌, List, [], ◌∷◌, ◌++◌, length, ◌==◌, nat_lt}
use Rattle.lists.specs.Choice.{pick, choose}
use Rattle.lists.specs.Little.{little_at}
use Rattle.lists.specs.Bytes.{little_bytes}
use Rattle.lists.specs.Tab.{tab}
use Rattle.answers.specs.Answers.{state_length}
use Rattle.profiles.specs.declared.Profile.{Profile}
use Rattle.profiles.specs.Profile.{profile_of}
use Rattle.words.specs.Image.{words_from}
use Rattle.order.specs.declared.Layout.{Layout}
use Rattle.order.specs.Layout.{layout_of}
use Rattle.display.specs.declared.Display.{Display}
use Rattle.display.specs.declared.Told.{Told}
use Rattle.display.specs.State.{display, selection_of}

-- 110 words of four bytes: 52 pending, 52 active, and six more
abbrev pub state_len : ℕ
state_len = 440

-- ---- a state out of bytes

-- every byte string stands for a state: something is selected where that word is not 0, a glyph pixel has two bits where bit 0
-- of the last word is 1, and float layers are let in where bit 1 of it is 0. What is held of the active words is not among the
-- bytes (02 K5)
unfoldable pub taken_of : List ℕ → Display
taken_of s =
    display (words_from s 0) (words_from s 208) (little_at s 416) (little_at s 420)
    (selection_of (nat_lt 0 (little_at s 424)) (little_at s 428) (little_at s 432))
    (profile_of (little_at s 436 % 2 == 1) (little_at s 436 / 2 % 2 == 0)) (layout_of (words_from s 208))

-- a state that holds something else of its active words: as bytes it is the same
abbrev pub with_layout : Display → Layout → Display
with_layout d layout = display d.pending d.active d.frame d.errors d.selection d.profile layout

-- ---- bytes out of a state

-- what was chosen, as a word: bit 0 where a glyph pixel has two bits, bit 1 where float layers are not let in, so that zeros are
-- a fresh state of one bit that lets them in
unfoldable pub choices_of : Profile → ℕ
choices_of p = pick p.soft 1 0 + pick p.floats 0 2

-- the words behind the registers: frame number, error word, the selection with 1 where one was made, and what was chosen
unfoldable pub last_words : Display → List ℕ
last_words d =
    d.frame ∷ d.errors ∷ pick d.selection.made 1 0 ∷ d.selection.number ∷ d.selection.place
    ∷ choices_of d.profile ∷ []

-- all 110
unfoldable pub state_words : Display → List ℕ
state_words d = d.pending ++ (d.active ++ last_words d)

-- each the lowest byte first
unfoldable pub state_bytes : Display → List ℕ
state_bytes d = tab state_len (little_bytes (state_words d))

-- ---- a call through a door: of a state of another length, 23 and all unchanged

-- the call's answer
unfoldable pub door_answer : List ℕ → (Display → Told) → ℕ
door_answer s call = pick (length s == state_len) (call (taken_of s)).answer state_length

-- the lent state
unfoldable pub door_state : List ℕ → (Display → Told) → List ℕ
door_state s call = choose (length s == state_len) (state_bytes (call (taken_of s)).state) s

-- a buffer that the call writes, which it would leave as `after` says
unfoldable pub door_buffer : List ℕ → (Display → List ℕ) → List ℕ → List ℕ
door_buffer s after before = choose (length s == state_len) (after (taken_of s)) before

-- a number that is read of the state, or 0
unfoldable pub door_read : List ℕ → (Display → ℕ) → ℕ
door_read s read = pick (length s == state_len) (read (taken_of s)) 0
