-- A state put back and taken apart again is the state, so that a row of calls through doors on one lent
-- state is the row of the display's calls. Assumes nothing.
use mathlib.Core.Path.{◌≡◌, refl, sym, ap, ap₂, ◌∙◌}
use mathlib.Core.Bool.{Bool, true, false}
use mathlib.Core.List.{List, [], ◌∷◌}
use Prim.Native.Nat.{ℕ, ◌+◌, ◌*◌, ◌/◌, ◌%◌, ◌^◌, ◌<◌}
use native.Mathlib.Omega.{arith}
use borrow.Author.Tests.{eq-eqb}
use lib.Dec.{ltb, eqb}
use lib.ListN.{length, get_or, replicate}
use Rattle.lists.specs.Choice.{pick}
use Rattle.lists.specs.Little.{little_at}
use Rattle.lists.specs.Bytes.{little_byte, little_bytes}
use Rattle.lists.specs.Tab.{tab}
use Rattle.lists.proofs.Tab.{length-tab}
use Rattle.lists.proofs.Little.{word_back}
use Rattle.profiles.specs.declared.Profile.{Profile}
use Rattle.profiles.specs.Profile.{profile_of, one_bit}
use Rattle.words.proofs.ImageLaws.{words_back}
use Rattle.order.specs.Layout.{no_layers}
use Rattle.display.specs.declared.Display.{Display}
use Rattle.display.specs.declared.Told.{Told}
use Rattle.display.specs.State.{display, selection_of, fresh}
use Rattle.display.specs.Doors.{state_len, taken_of, last_words, state_words, state_bytes, door_answer, door_state}
use Rattle.display.specs.Doors.{choices_of, door_buffer, door_read}
use Rattle.display.proofs.DoorLaws.{bare-all, taken-all, in-pending, in-active, in-last}
use Rattle.doors.specs.Rows.{Fits, Holds, Ask, Typed, AllTyped, tells_of, lent_to, left_by, count_by}
use Rattle.doors.specs.Rows.{Seen, seen_of}
use Rattle.doors.specs.Rows.{state_after, seen_after, bytes_after, seen_by_c}
use Rattle.doors.proofs.Fits.{taken-fits, fresh-fits, call_fits}

-- ---- what was put back, taken apart

flag-back : (b : Bool) → b ≡ ltb 0 (pick b 1 0)
flag-back true = refl
flag-back false = refl

choice-back : (p : Profile) → p ≡ profile_of (eqb (choices_of p % 2) 1) (eqb (choices_of p / 2 % 2) 0)
unfolding choices_of
choice-back p = go p.soft p.floats
  where
    go : (b c : Bool)
        → profile_of b c ≡ profile_of (eqb ((pick b 1 0 + pick c 0 2) % 2) 1) (eqb ((pick b 1 0 + pick c 0 2) / 2 % 2) 0)
    go true true = refl
    go true false = refl
    go false true = refl
    go false false = refl

flag-fits : (b : Bool) → pick b 1 0 < 2 ^ 32
flag-fits true = omega arith
flag-fits false = omega arith

choice-fits : (p : Profile) → choices_of p < 2 ^ 32
unfolding choices_of
choice-fits p = go p.soft p.floats
  where
    go : (b c : Bool) → pick b 1 0 + pick c 0 2 < 2 ^ 32
    go true true = omega arith
    go true false = omega arith
    go false true = omega arith
    go false false = omega arith

pub taken_back : (d : Display) → Fits d → taken_of (state_bytes d) ≡ d
unfolding state_bytes last_words
taken_back d f =
    let w = state_words d in
    let one : (i o v : ℕ) → o ≡ 416 + 4 * i → i < 6 → v ≡ get_or w (104 + i) 0 → v < 2 ^ 32
    → v ≡ little_at (tab 440 (little_bytes w)) o
    = λ i o v at b e h. e ∙ sym (word_back w (104 + i) 440 o (omega arith) (omega arith) (rw (← e) h)) in
    let r = in-last d f.pending f.active in
    sym (taken-all (state_bytes d) _ d.layout (bare-all (state_bytes d) d.pending d.active d.frame d.errors
    (pick d.selection.made 1 0) d.selection.number d.selection.place (choices_of d.profile) no_layers
    (words_back w d.pending 0 440 0 refl (omega arith) f.pending f.pending-words
    (λ i h. in-pending d f.pending i h ∙ ap (λ (n : ℕ). get_or w n 0) (let q : i ≡ 0 + i = omega arith in q)))
    (words_back w d.active 52 440 208 refl (omega arith) f.active f.active-words
    (in-active d f.pending f.active))
    (one 0 416 d.frame refl (omega arith) (r 0) f.frame)
    (one 1 420 d.errors refl (omega arith) (r 1) f.errors)
    (one 2 424 (pick d.selection.made 1 0) refl (omega arith) (r 2) (flag-fits d.selection.made))
    (one 3 428 d.selection.number refl (omega arith) (r 3) f.number)
    (one 4 432 d.selection.place refl (omega arith) (r 4) f.place)
    (one 5 436 (choices_of d.profile) refl (omega arith) (r 5) (choice-fits d.profile)) refl) f.arranged)
    ∙ ap₂ (λ (b : Bool) (p : Profile). display d.pending d.active d.frame d.errors
    (selection_of b d.selection.number d.selection.place) p d.layout)
    (sym (flag-back d.selection.made)) (sym (choice-back d.profile))

pub length-bytes : (d : Display) → length (state_bytes d) ≡ state_len
unfolding state_bytes
length-bytes d = length-tab state_len (little_bytes (state_words d))

-- zeros are the fresh state of one bit a glyph pixel that lets float layers in
pub bytes-fresh : state_bytes (fresh (one_bit true)) ≡ replicate state_len 0
unfolding state_bytes state_words last_words choices_of little_bytes little_byte tab
bytes-fresh = refl

pub holds-fresh : Holds (replicate state_len 0) (fresh (one_bit true))
holds-fresh = record { bytes = sym bytes-fresh; fits = fresh-fits (one_bit true) }

-- ---- a door of a state that is held

module _ (s : List ℕ) (d : Display) (h : Holds s d) where
  held : taken_of s ≡ d
  held = ap taken_of h.bytes ∙ taken_back d h.fits

  long : length s ≡ state_len
  long = ap length h.bytes ∙ length-bytes d

  pub answer-held : (call : Display → Told) → door_answer s call ≡ (call d).answer
  unfolding door_answer
  answer-held call = rw (eq-eqb _ _ long) (ap (λ (x : Display). (call x).answer) held)

  pub state-held : (call : Display → Told) → door_state s call ≡ state_bytes (call d).state
  unfolding door_state
  state-held call = rw (eq-eqb _ _ long) (ap (λ (x : Display). state_bytes (call x).state) held)

  pub buffer_held : (after : Display → List ℕ) (before : List ℕ) → door_buffer s after before ≡ after d
  unfolding door_buffer
  buffer_held after before = rw (eq-eqb _ _ long) (ap after held)

  -- what is read through a door is what the display's own call reads
  pub read_held : (read : Display → ℕ) → door_read s read ≡ read d
  unfolding door_read
  read_held read = rw (eq-eqb _ _ long) (ap read held)

  pub call-held : (a : Ask) → Typed a → Holds (door_state s (tells_of a)) (tells_of a d).state
  call-held a t = record { bytes = state-held (tells_of a); fits = call_fits d h.fits a t }

-- ---- every byte string of the right length

-- whatever bytes are lent, the call is the display's on the state that they stand for, and from then on the
-- lent state holds a display
pub any_held : (s : List ℕ) → length s ≡ state_len → ((i : ℕ) → get_or s i 0 < 256) → (a : Ask) → Typed a
    → Holds (door_state s (tells_of a)) (tells_of a (taken_of s)).state
unfolding door_state
any_held s l b a t = record { bytes = rw (eq-eqb _ _ l); fits = call_fits (taken_of s) (taken-fits s b) a t }

-- ---- calls in a row

pub row-held : (row : List Ask) (s : List ℕ) (d : Display) → Holds s d → AllTyped row
    → Holds (bytes_after row s) (state_after row d)
row-held [] s d h t = h
row-held (a ∷ rest) s d h t = row-held rest (door_state s (tells_of a)) (tells_of a d).state (call-held s d h a t.0)
    t.1

-- what is seen of one call is the same where each part is
seen-is : {a a' n n' : ℕ} {b b' : List ℕ} → a ≡ a' → n ≡ n' → b ≡ b' → seen_of a n b ≡ seen_of a' n' b'
seen-is p q r = rw (p, q, r)

pub row_seen : (row : List Ask) (s : List ℕ) (d : Display) → Holds s d → AllTyped row → seen_by_c row s ≡ seen_after row d
row_seen [] s d h t = refl
row_seen (a ∷ rest) s d h t =
    ap₂ (λ (x : Seen) (l : List Seen). x ∷ l)
    (seen-is (answer-held s d h (tells_of a)) (read_held s d h (count_by a)) (buffer_held s d h (left_by a) (lent_to a)))
    (row_seen rest (door_state s (tells_of a)) (tells_of a d).state (call-held s d h a t.0) t.1)
