-- The state, and what new, write, select, toggle and start answer and leave: 01 "What the display is made
-- of", "Registers", "Answers by number", 02 K2, K5, K7. Assumes nothing.
use Rattle.std.specs.Prelude.{ℕ, ◌+◌, ◌%◌, ◌^◌, Bool, true, false, List, replicate, ◌==◌, bit_xor, nat_lt, slice_set}
use Rattle.lists.specs.Choice.{choose}
use Rattle.answers.specs.Answers.{done, no_register, no_selection, glyph_bits}
use Rattle.profiles.specs.declared.Profile.{Profile}
use Rattle.profiles.specs.Profile.{one_bit, two_bits, bits_of}
use Rattle.words.specs.Fields.{update_of}
use Rattle.words.specs.Check.{check_of}
use Rattle.order.specs.declared.Layout.{Layout}
use Rattle.order.specs.Layout.{layout_of, no_layers}
use Rattle.display.specs.declared.Display.{Display}
use Rattle.tables.specs.declared.Selection.{Selection}
use Rattle.display.specs.declared.Told.{Told}

-- ---- the state, and a part of it replaced

-- "The state holds pending registers, active registers, frame number (32 bits), error word (32 bits),
-- and a table selection with its place."; 02 K2: "The number of bits is chosen when a state is made"; K5: "The state
-- shall hold it: enabled layers in rising depth, and how many.": all parts of a state, in this order
abbrev pub display : List ℕ → List ℕ → ℕ → ℕ → Selection → Profile → Layout → Display
display pending active frame errors selection profile layout =
    record {
      pending = pending;
      active = active;
      frame = frame;
      errors = errors;
      selection = selection;
      profile = profile;
      layout = layout;
    }

-- whether one was made, its number, and the place
abbrev pub selection_of : Bool → ℕ → ℕ → Selection
selection_of made number place = record { made = made; number = number; place = place }

-- "A fresh state has all numbers 0 and nothing selected.", of what was chosen
abbrev pub fresh : Profile → Display
fresh profile = display (replicate 52 0) (replicate 52 0) 0 0 (selection_of false 0 0) profile no_layers

-- how many bits a glyph pixel has
abbrev pub bits_in : Display → ℕ
bits_in d = bits_of d.profile

-- the state with other pending words, all else as it was
abbrev pub with_pending : Display → List ℕ → Display
with_pending d pending = display pending d.active d.frame d.errors d.selection d.profile d.layout

-- with other active words, and what is held of them worked out afresh
abbrev pub with_active : Display → List ℕ → Display
with_active d active = display d.pending active d.frame d.errors d.selection d.profile (layout_of active)

-- at another frame number
abbrev pub with_frame : Display → ℕ → Display
with_frame d frame = display d.pending d.active frame d.errors d.selection d.profile d.layout

-- with another error word
abbrev pub with_errors : Display → ℕ → Display
with_errors d errors = display d.pending d.active d.frame errors d.selection d.profile d.layout

-- with another selection and its place
abbrev pub with_selection : Display → Selection → Display
with_selection d selection = display d.pending d.active d.frame d.errors selection d.profile d.layout

-- with a new selection, at place 0
abbrev pub fresh_selection : Display → ℕ → Display
fresh_selection d number = with_selection d (selection_of true number 0)

-- with the place alone moved
abbrev pub with_place : Display → ℕ → Display
with_place d place = with_selection d (selection_of d.selection.made d.selection.number place)

-- a state and an answer
abbrev pub told : Display → ℕ → Told
told d answer = record { state = d; answer = answer }

-- ---- new

-- 02 K2: "17 for a bit number other than 1 or 2 when making a state, handing back a fresh one-bit state"; K7: float layers
-- are let in "save in the host entry and the sheet program"
abbrev pub new_of : ℕ → Bool → Told
new_of bits floats =
    choose (bits == 1) (told (fresh (one_bit floats)) done)
    (choose (bits == 2) (told (fresh (two_bits floats)) done) (told (fresh (one_bit floats)) glyph_bits))

-- ---- write, select, toggle

-- "A write changes the pending word."; 1, "register above 51": "all unchanged"
abbrev pub write_of : Display → ℕ → ℕ → Told
write_of d register value =
    choose (nat_lt register 52) (told (with_pending d (slice_set d.pending register value)) done) (told d no_register)

-- "Selecting sets the place to 0, also when it selects the same bank again."; 2, "above 63": "all unchanged"
abbrev pub select_of : Display → ℕ → Told
select_of d selection = choose (nat_lt selection 64) (told (fresh_selection d selection) done) (told d no_selection)

-- "Error bits are toggled by writing: each 1 clears a set bit and sets a clear one, all 32 of them
-- (000); this is never refused."
abbrev pub toggle_of : Display → ℕ → Told
toggle_of d bits = told (with_errors d (bit_xor d.errors bits)) done

-- ---- start

-- "Starting a frame adds one to the frame number, wrapping at 2^32."
abbrev pub stepped : Display → Display
stepped d = with_frame d ((d.frame + 1) % 2 ^ 32)

-- what is wrong with the pending words, by what the state lets in
abbrev pub check_in : Display → ℕ
check_in d = check_of d.profile.floats d.pending

-- "Then, if the pending update bit is set, the pending words are checked, and if they pass they become
-- the active ones. With the update bit clear nothing is checked or copied. The update bit stays until
-- written."; 7 to 11: "frame number stepped, else unchanged"
abbrev pub start_of : Display → Told
start_of d =
    choose (update_of d.pending)
    (choose (check_in d == done) (told (with_active (stepped d) d.pending) done) (told (stepped d) (check_in d)))
    (told (stepped d) done)
