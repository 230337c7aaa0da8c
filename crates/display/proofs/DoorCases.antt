-- What each clause of a door asks, in the cases of `DoorLaws`. Assumes nothing.
use Rattle.std.proofs.Common.{◌≡◌, ℕ, List, length, refl}
use Rattle.answers.specs.Answers.{state_length}
use Rattle.order.specs.Layout.{no_layers}
use Rattle.display.specs.declared.Display.{Display}
use Rattle.display.specs.declared.Told.{Told}
use Rattle.display.specs.Doors.{with_layout, state_len, taken_of, state_bytes, door_answer, door_state}
use Rattle.display.proofs.DoorLaws.{Blind, door-length, door-done, door-bare, buffer-length, buffer-done, buffer-bare}
use Rattle.display.proofs.DoorLaws.{read_length, read-bare, taken-arranged, flag-is, flag-le}
use Rattle.display.proofs.BareLaws.{write-blind, select-blind, toggle-blind, put-blind, put-tables-blind, fill-blind}
use Rattle.display.proofs.BareLaws.{fill-bytes-blind, put-run-tables-blind}

module _ (s : List ℕ) (call : Display → Told) where
  -- a state of another length
  pub refused-answer : (length s ≡ state_len → ⊥) → state_length ≡ door_answer s call
  refused-answer ne = (door-length s call ne).0

  pub refused-state : (length s ≡ state_len → ⊥) → s ≡ door_state s call
  refused-state ne = (door-length s call ne).1

  module _ (d : Display) (t : Told) (long : length s ≡ state_len) where
    -- of the whole state
    pub done-answer : (r : ℕ) → d ≡ taken_of s → t ≡ call d → r ≡ t.answer → r ≡ door_answer s call
    done-answer r at e a = (door-done s call d t r _ long at e a refl).0

    pub done-state : (s' : List ℕ) → d ≡ taken_of s → t ≡ call d → s' ≡ state_bytes t.state → s' ≡ door_state s call
    done-state s' at e b = (door-done s call d t _ s' long at e refl b).1

    -- of one without what is held
    pub bare-answer : (r : ℕ) → r ≡ t.answer → t ≡ call d → d ≡ with_layout (taken_of s) no_layers → Blind call call
        → r ≡ door_answer s call
    bare-answer r a e at blind = (door-bare s call call blind d t r _ long at e a refl).0

    pub bare-state : (s' : List ℕ) → s' ≡ state_bytes t.state → t ≡ call d → d ≡ with_layout (taken_of s) no_layers
        → Blind call call → s' ≡ door_state s call
    bare-state s' b e at blind = (door-bare s call call blind d t _ s' long at e refl b).1

pub ruleset doors = (
  refused-answer,
  refused-state,
  done-answer,
  done-state,
  bare-answer,
  bare-state,
  buffer-length,
  buffer-done,
  buffer-bare,
  read_length,
  read-bare,
  taken-arranged,
  write-blind,
  select-blind,
  toggle-blind,
  put-blind,
  put-tables-blind,
  fill-blind,
  fill-bytes-blind,
  put-run-tables-blind,
  flag-is,
  flag-le,
)
