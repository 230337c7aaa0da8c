-- Wrong doors break the contract of each door that they fit, on the small inputs that the display's impostors
-- are tried on (`laws/proofs/Small`), each state as its bytes. A law CALL-door-IMPOSTOR says that the outcome
-- does not meet the door's contract; an answer a and a state s of which nothing is said are any. Assumes
-- nothing.
use Prim.Native.Nat.{ℕ, ◌^◌, ◌<◌}
use mathlib.Core.Path.{◌≡◌, refl, sym, ap, ◌∙◌}
use mathlib.Core.Bool.{true, false}
use mathlib.Core.List.{List, [], ◌∷◌}
use native.Mathlib.Omega.{arith}
use lib.ListN.{get_or}
use Rattle.lists.specs.Call.{Meets}
use Rattle.lists.proofs.Call.{pair_is, triple-is, quadruple-is, tied-meets}
use Rattle.answers.specs.Answers.{done}
use Rattle.display.specs.declared.Display.{Display}
use Rattle.display.specs.declared.Told.{Told}
use Rattle.profiles.specs.Profile.{one_bit}
use Rattle.display.specs.State.{fresh, new_of, start_of, write_of, select_of, toggle_of}
use Rattle.display.specs.Put.{put_of}
use Rattle.display.specs.Runs.{told_by, put_run_of, write_run_of}
use Rattle.display.proofs.PutLaws.{put-done}
use Rattle.display.specs.Paint.{fill_told, fill_bytes, paint_told, paint_bytes, frame_told, frame_bytes, line_told, line_bytes}
use Rattle.display.specs.Doors.{taken_of, state_bytes}
use Rattle.laws.specs.Small.{first, grey, night, written, started, selecting, one_write, blank, filled, white, clear, dim}
use Rattle.laws.specs.Small.{bright}
use Rattle.laws.specs.Small.{painted, framed, lined}
use Rattle.laws.specs.Impostors.{TurnsDown, Rule, lowest, by256, numbered, ground_last, paint_by, frame_by}
use Rattle.laws.proofs.Small as small
use Rattle.laws.proofs.Runs.{put-run-one, put-run-all, write-run-all}
use Rattle.laws.proofs.Impostors.{write-one, differ, one-frame, lowest-frame, by256-frame, numbered-frame}
use Rattle.laws.proofs.Impostors.{same-frame, dim-bright}
use Rattle.doors.specs.Rows.{Fits, Holds, ask-write, ask-select, ask-toggle, ask-start, ask-put, ask-put-run}
use Rattle.doors.proofs.Fits.{fresh-fits, call_fits}
use Rattle.doors.proofs.Round.{taken_back, answer-held, state-held, buffer_held, read_held}
use Rattle.doors.proofs.Unique.{new_door, write_door, select_door, toggle_door, start_door, put_door, fill_door}
use Rattle.doors.proofs.Unique.{line_door, line-door-tie}
use Rattle.doors.proofs.Unique.{paint_door, frame_door, new-door-tie, write-door-tie, select-door-tie}
use Rattle.doors.proofs.Unique.{toggle-door-tie, start-door-tie, put-door-tie, fill-door-tie, paint-door-tie}
use Rattle.doors.proofs.Unique.{frame-door-tie, put_run_door, write_run_door, put-run-door-tie, write-run-door-tie}

-- ---- the states, as bytes

held : (d : Display) → Fits d → Holds (state_bytes d) d
held d f = record { bytes = refl; fits = f }

fresh-held : Holds (state_bytes first) first
fresh-held = held first (fresh-fits (one_bit false))

-- the words of the one pixel are written one after another
written-fits : (ground : ℕ) → ground < 2 ^ 32 → Fits (written ground)
written-fits ground b =
    let f1 = call_fits first (fresh-fits (one_bit false)) (ask-write 0 5) (omega arith) in
    let f2 = call_fits _ f1 (ask-write 1 0x0001_0001) (omega arith) in
    let f3 = call_fits _ f2 (ask-write 2 ground) b in
    let f4 = call_fits _ f3 (ask-write 4 0x0101) (omega arith) in
    let f5 = call_fits _ f4 (ask-write 7 0x0001_0001) (omega arith) in
    let f6 = call_fits _ f5 (ask-write 10 0x0001) (omega arith) in
    call_fits _ f6 (ask-write 13 0x0001_0001) (omega arith)

written_held : Holds (state_bytes (written grey)) (written grey)
written_held = held (written grey) (written-fits grey (omega arith))

started-held : (ground : ℕ) → ground < 2 ^ 32 → Holds (state_bytes (started ground)) (started ground)
started-held ground b = held (started ground) (call_fits (written ground) (written-fits ground b) ask-start tt)

selecting-held : Holds (state_bytes selecting) selecting
selecting-held = held selecting (call_fits first (fresh-fits (one_bit false)) (ask-select 1) tt)

-- states that differ have bytes that differ
bytes_apart : (d e : Display) → Fits d → Fits e → (f : Display → ℕ) → (f d ≡ f e → ⊥) → state_bytes d ≡ state_bytes e → ⊥
bytes_apart d e p q f ne same = ne (ap f (sym (taken_back d p) ∙ ap taken_of same ∙ taken_back e q))

-- ---- "one that turns everything down"

module _ (a : ℕ) (s : List ℕ) (down : TurnsDown a) where
  pub new-door-down : Meets new_door (state_bytes selecting, 1) (a, s) → ⊥
  new-door-down m =
      down ((pair_is.1 (tied-meets new-door-tie m)).0 ∙ answer-held _ selecting selecting-held (λ d. new_of 1 true))

  pub write-door-down : Meets write_door (state_bytes first, 0, 1) (a, s) → ⊥
  write-door-down m =
      down ((pair_is.1 (tied-meets write-door-tie m)).0
      ∙ answer-held _ first fresh-held (λ d. write_of d 0 1) ∙ small.write-accepted)

  pub select-door-down : Meets select_door (state_bytes first, 1) (a, s) → ⊥
  select-door-down m =
      down ((pair_is.1 (tied-meets select-door-tie m)).0
      ∙ answer-held _ first fresh-held (λ d. select_of d 1) ∙ small.select-accepted)

  pub toggle-door-down : Meets toggle_door (state_bytes first, 1) (a, s) → ⊥
  toggle-door-down m =
      down ((pair_is.1 (tied-meets toggle-door-tie m)).0
      ∙ answer-held _ first fresh-held (λ d. toggle_of d 1) ∙ small.toggle-accepted)

  pub start-door-down : Meets start_door (state_bytes (written grey)) (a, s) → ⊥
  start-door-down m =
      down ((pair_is.1 (tied-meets start-door-tie m)).0
      ∙ answer-held _ (written grey) written_held start_of ∙ small.start-accepted)

  pub put-door-down : (t : List ℕ) → Meets put_door (state_bytes selecting, blank, 7) (a, s, t) → ⊥
  put-door-down t m =
      down ((triple-is.1 (tied-meets put-door-tie m)).0
      ∙ answer-held _ selecting selecting-held (λ d. put_of d blank) ∙ small.put-accepted)

  -- with any count
  pub put-run-door-down : (t : List ℕ) (n : ℕ)
      → Meets put_run_door (state_bytes selecting, blank, 7 ∷ []) (a, s, t, n) → ⊥
  put-run-door-down t n m =
      down ((quadruple-is.1 (tied-meets put-run-door-tie m)).0
      ∙ answer-held _ selecting selecting-held (λ d. told_by (put_run_of d blank (7 ∷ [])))
      ∙ ap (λ (r : Told). r.answer) (put-run-one selecting blank 7).0 ∙ small.put-accepted)

  pub write-run-door-down : (n : ℕ) → Meets write_run_door (state_bytes first, one_write) (a, s, n) → ⊥
  write-run-door-down n m =
      down ((triple-is.1 (tied-meets write-run-door-tie m)).0
      ∙ answer-held _ first fresh-held (λ d. told_by (write_run_of d one_write))
      ∙ ap (λ (r : Told). r.answer) write-one ∙ small.write-accepted)

  pub fill-door-down : (o : List ℕ) → Meets fill_door (state_bytes (started grey), filled) (a, s, o) → ⊥
  fill-door-down o m =
      down ((triple-is.1 (tied-meets fill-door-tie m)).0
      ∙ answer-held _ (started grey) (started-held grey (omega arith)) (λ d. fill_told d filled)
      ∙ (small.fill-accepted).0)

  pub paint-door-down : (o : List ℕ)
      → Meets paint_door (state_bytes (started grey), 0, 8, blank, white, [], filled) (a, s, o) → ⊥
  paint-door-down o m =
      down ((triple-is.1 (tied-meets paint-door-tie m)).0
      ∙ answer-held _ (started grey) (started-held grey (omega arith)) (λ d. paint_told d 0 8 blank white [] filled)
      ∙ small.paint-accepted white refl)

  pub frame-door-down : (o : List ℕ) → Meets frame_door (state_bytes (started grey), blank, white, [], filled) (a, s, o) → ⊥
  frame-door-down o m =
      down ((triple-is.1 (tied-meets frame-door-tie m)).0
      ∙ answer-held _ (started grey) (started-held grey (omega arith)) (λ d. frame_told d blank white [] filled)
      ∙ small.frame-accepted white refl)

  pub line-door-down : (o : List ℕ) → Meets line_door (state_bytes (started grey), 0, blank, white, [], filled) (a, s, o) → ⊥
  line-door-down o m =
      down ((triple-is.1 (tied-meets line-door-tie m)).0
      ∙ answer-held _ (started grey) (started-held grey (omega arith)) (λ d. line_told d 0 blank white [] filled)
      ∙ small.line-accepted white refl)

-- ---- "one that touches nothing"

pub new-door-untouched : Meets new_door (state_bytes selecting, 1) (done, state_bytes selecting) → ⊥
new-door-untouched m =
    bytes_apart selecting (fresh (one_bit true)) selecting-held.fits (fresh-fits (one_bit true))
    (λ (d : Display). d.selection.number) (λ (z : 1 ≡ 0). omega arith)
    ((pair_is.1 (tied-meets new-door-tie m)).1 ∙ state-held _ selecting selecting-held (λ d. new_of 1 true))

pub write-door-untouched : Meets write_door (state_bytes first, 0, 1) (done, state_bytes first) → ⊥
write-door-untouched m =
    bytes_apart first (write_of first 0 1).state (fresh-fits (one_bit false)) (call_fits first (fresh-fits (one_bit false))
    (ask-write 0 1) (omega arith))
    (λ (d : Display). get_or d.pending 0 0) (λ (z : 0 ≡ 1). omega arith)
    ((pair_is.1 (tied-meets write-door-tie m)).1 ∙ state-held _ first fresh-held (λ d. write_of d 0 1))

pub select-door-untouched : Meets select_door (state_bytes first, 1) (done, state_bytes first) → ⊥
select-door-untouched m =
    bytes_apart first selecting (fresh-fits (one_bit false)) selecting-held.fits
    (λ (d : Display). d.selection.number) (λ (z : 0 ≡ 1). omega arith)
    ((pair_is.1 (tied-meets select-door-tie m)).1 ∙ state-held _ first fresh-held (λ d. select_of d 1))

pub toggle-door-untouched : Meets toggle_door (state_bytes first, 1) (done, state_bytes first) → ⊥
toggle-door-untouched m =
    bytes_apart first (toggle_of first 1).state (fresh-fits (one_bit false)) (call_fits first (fresh-fits (one_bit false))
    (ask-toggle 1) (omega arith))
    (λ (d : Display). d.errors) (λ (z : 0 ≡ 1). omega arith)
    ((pair_is.1 (tied-meets toggle-door-tie m)).1 ∙ state-held _ first fresh-held (λ d. toggle_of d 1))

pub start-door-untouched : Meets start_door (state_bytes (written grey)) (done, state_bytes (written grey)) → ⊥
unfolding small.words_open
start-door-untouched m =
    bytes_apart (written grey) (started grey) written_held.fits (started-held grey (omega arith)).fits
    (λ (d : Display). d.frame) (λ (z : 0 ≡ 1). omega arith)
    ((pair_is.1 (tied-meets start-door-tie m)).1 ∙ state-held _ (written grey) written_held start_of)

-- whatever it leaves of the tables
pub put-door-untouched : (t : List ℕ) → Meets put_door (state_bytes selecting, blank, 7) (done, state_bytes selecting, t)
    → ⊥
put-door-untouched t m =
    let stored : 1 ≡ (put_of selecting blank).state.selection.place =
    ap (λ (r : Told). r.state.selection.place) (put-done selecting blank 7 small.put-passes).0 in
    bytes_apart selecting (put_of selecting blank).state selecting-held.fits
    (call_fits selecting selecting-held.fits (ask-put blank 7) tt)
    (λ (d : Display). d.selection.place)
    (λ (z : 0 ≡ (put_of selecting blank).state.selection.place). omega (arith, stored))
    ((triple-is.1 (tied-meets put-door-tie m)).1.0 ∙ state-held _ selecting selecting-held (λ d. put_of d blank))

-- with any count
pub put-run-door-untouched : (t : List ℕ) (n : ℕ)
    → Meets put_run_door (state_bytes selecting, blank, 7 ∷ []) (done, state_bytes selecting, t, n) → ⊥
put-run-door-untouched t n m =
    let one = (put-run-one selecting blank 7).0 ∙ sym (put-done selecting blank 7 small.put-passes).0 in
    let stored : (put_run_of selecting blank (7 ∷ [])).state.selection.place ≡ 1 =
    ap (λ (r : Told). r.state.selection.place) one in
    bytes_apart selecting (put_run_of selecting blank (7 ∷ [])).state selecting-held.fits
    (call_fits selecting selecting-held.fits (ask-put-run blank (7 ∷ [])) tt)
    (λ (d : Display). d.selection.place)
    (λ (z : 0 ≡ (put_run_of selecting blank (7 ∷ [])).state.selection.place). omega (arith, stored))
    ((quadruple-is.1 (tied-meets put-run-door-tie m)).1.0
    ∙ state-held _ selecting selecting-held (λ d. told_by (put_run_of d blank (7 ∷ []))))

pub write-run-door-untouched : (n : ℕ) → Meets write_run_door (state_bytes first, one_write) (done, state_bytes first, n) → ⊥
write-run-door-untouched n m =
    bytes_apart first (write_of first 0 1).state (fresh-fits (one_bit false)) (call_fits first (fresh-fits (one_bit false))
    (ask-write 0 1) (omega arith))
    (λ (d : Display). get_or d.pending 0 0) (λ (z : 0 ≡ 1). omega arith)
    ((triple-is.1 (tied-meets write-run-door-tie m)).1.0
    ∙ state-held _ first fresh-held (λ d. told_by (write_run_of d one_write))
    ∙ ap (λ (r : Told). state_bytes r.state) write-one)

-- ---- a count of anything but the one item

module _ (a : ℕ) (s : List ℕ) (n : ℕ) (miscounted : n ≡ 1 → ⊥) where
  pub put-run-door-miscounted : (t : List ℕ) → Meets put_run_door (state_bytes selecting, blank, 7 ∷ []) (a, s, t, n) → ⊥
  put-run-door-miscounted t m =
      let passed = ap (λ (r : Told). r.answer) (put-run-one selecting blank 7).0 ∙ small.put-accepted in
      miscounted ((quadruple-is.1 (tied-meets put-run-door-tie m)).1.1.1
      ∙ read_held _ selecting selecting-held (λ d. (put_run_of d blank (7 ∷ [])).done)
      ∙ put-run-all selecting blank (7 ∷ []) passed)

  pub write-run-door-miscounted : Meets write_run_door (state_bytes first, one_write) (a, s, n) → ⊥
  write-run-door-miscounted m =
      let passed = ap (λ (r : Told). r.answer) write-one ∙ small.write-accepted in
      miscounted ((triple-is.1 (tied-meets write-run-door-tie m)).1.1
      ∙ read_held _ first fresh-held (λ d. (write_run_of d one_write).done)
      ∙ write-run-all first one_write passed)

-- ---- what a door of painting leaves is what is promised of the display's call

paints : (pictures out : List ℕ) (a : ℕ) (s : List ℕ)
    → Meets paint_door (state_bytes (started grey), 0, 8, blank, pictures, [], filled) (a, s, out) → out ≡ painted pictures
paints pictures out a s m =
    (triple-is.1 (tied-meets paint-door-tie m)).1.1
    ∙ buffer_held _ (started grey) (started-held grey (omega arith)) (λ d. paint_bytes d 0 8 blank pictures [] filled)
    filled

frames : (pictures out : List ℕ) (a : ℕ) (s : List ℕ)
    → Meets frame_door (state_bytes (started grey), blank, pictures, [], filled) (a, s, out) → out ≡ framed pictures
frames pictures out a s m =
    (triple-is.1 (tied-meets frame-door-tie m)).1.1
    ∙ buffer_held _ (started grey) (started-held grey (omega arith)) (λ d. frame_bytes d blank pictures [] filled) filled

lines : (pictures out : List ℕ) (a : ℕ) (s : List ℕ)
    → Meets line_door (state_bytes (started grey), 0, blank, pictures, [], filled) (a, s, out) → out ≡ lined pictures
lines pictures out a s m =
    (triple-is.1 (tied-meets line-door-tie m)).1.1
    ∙ buffer_held _ (started grey) (started-held grey (omega arith)) (λ d. line_bytes d 0 blank pictures [] filled) filled

module _ (a : ℕ) (s : List ℕ) where
  pub fill-door-untouched : Meets fill_door (state_bytes (started night), filled) (a, s, filled) → ⊥
  fill-door-untouched m =
      differ 0 (λ (z : 100 ≡ 0). omega arith)
      ((triple-is.1 (tied-meets fill-door-tie m)).1.1
      ∙ buffer_held _ (started night) (started-held night (omega arith)) (λ d. fill_bytes d filled) filled
      ∙ small.night-fill)

  pub paint-door-untouched : Meets paint_door (state_bytes (started grey), 0, 8, blank, white, [], filled) (a, s, filled) → ⊥
  paint-door-untouched m =
      differ 0 (λ (z : 100 ≡ 255). omega arith) (paints white filled a s m ∙ (small.white-promised).paint)

  pub frame-door-untouched : Meets frame_door (state_bytes (started grey), blank, white, [], filled) (a, s, filled) → ⊥
  frame-door-untouched m =
      differ 0 (λ (z : 100 ≡ 255). omega arith) (frames white filled a s m ∙ (small.white-promised).frame)

  pub line-door-untouched : Meets line_door (state_bytes (started grey), 0, blank, white, [], filled) (a, s, filled) → ⊥
  line-door-untouched m =
      differ 0 (λ (z : 100 ≡ 255). omega arith) (lines white filled a s m ∙ (small.white-promised).scan)

  -- ---- "one that gives one fixed frame": it does not meet the contract on both of two inputs

  module _ (b : ℕ) (u fixed : List ℕ) where
    pub paint-door-fixed : Meets paint_door (state_bytes (started grey), 0, 8, blank, white, [], filled) (a, s, fixed)
        → Meets paint_door (state_bytes (started grey), 0, 8, blank, clear, [], filled) (b, u, fixed) → ⊥
    paint-door-fixed m n =
        one-frame (small.white-promised).paint (small.clear-promised).paint (paints white fixed a s m)
        (paints clear fixed b u n)

    pub frame-door-fixed : Meets frame_door (state_bytes (started grey), blank, white, [], filled) (a, s, fixed)
        → Meets frame_door (state_bytes (started grey), blank, clear, [], filled) (b, u, fixed) → ⊥
    frame-door-fixed m n =
        one-frame (small.white-promised).frame (small.clear-promised).frame (frames white fixed a s m)
        (frames clear fixed b u n)

    pub line-door-fixed : Meets line_door (state_bytes (started grey), 0, blank, white, [], filled) (a, s, fixed)
        → Meets line_door (state_bytes (started grey), 0, blank, clear, [], filled) (b, u, fixed) → ⊥
    line-door-fixed m n =
        one-frame (small.white-promised).scan (small.clear-promised).scan (lines white fixed a s m)
        (lines clear fixed b u n)

  -- ---- other rules of painting: a frame x that is not the promised one

  -- what a rule gives meets none of the doors' contracts, with the white picture
  pub record DoorsBreak (rule : Rule) : Type 0 where
    pub paint : Meets paint_door (state_bytes (started grey), 0, 8, blank, white, [], filled) (a, s, paint_by rule white) → ⊥
    pub frame : Meets frame_door (state_bytes (started grey), blank, white, [], filled) (a, s, frame_by rule white) → ⊥
    pub line : Meets line_door (state_bytes (started grey), 0, blank, white, [], filled) (a, s, frame_by rule white) → ⊥

  breaks : (rule : Rule) {x : List ℕ} → frame_by rule white ≡ x → (x ≡ 255 ∷ 255 ∷ 255 ∷ 255 ∷ [] → ⊥) → DoorsBreak rule
  unfolding small.frame_open
  breaks rule is wrong =
      record {
        paint = λ m. wrong (sym is ∙ paints white (paint_by rule white) a s m ∙ (small.white-promised).paint);
        frame = λ m. wrong (sym is ∙ frames white (frame_by rule white) a s m ∙ (small.white-promised).frame);
        line = λ m. wrong (sym is ∙ lines white (frame_by rule white) a s m ∙ (small.white-promised).scan);
      }

  pub lowest-door-breaks : DoorsBreak lowest
  lowest-door-breaks = breaks lowest lowest-frame (differ 0 (λ (z : 10 ≡ 255). omega arith))

  pub by256-door-breaks : DoorsBreak by256
  by256-door-breaks = breaks by256 by256-frame (differ 0 (λ (z : 254 ≡ 255). omega arith))

  pub numbered-door-breaks : DoorsBreak numbered
  numbered-door-breaks = breaks numbered numbered-frame (differ 0 (λ (z : 10 ≡ 255). omega arith))

-- ---- the background last: it makes one frame of a dim and a bright faint colour, and does not meet the
-- contract on both

module _ (a b : ℕ) (s u : List ℕ) (last : ℕ → ℕ → ℕ → ℕ) where
  pub paint-door-ground-last : Meets paint_door (state_bytes (started grey), 0, 8, blank, dim, [], filled)
      (a, s, paint_by (ground_last last) dim)
      → Meets paint_door (state_bytes (started grey), 0, 8, blank, bright, [], filled)
      (b, u, paint_by (ground_last last) bright) → ⊥
  unfolding small.frame_open
  paint-door-ground-last m n =
      dim-bright last (small.dim-promised).paint (small.bright-promised).paint
      (same-frame last ∙ paints dim (paint_by (ground_last last) dim) a s m)
      (paints bright (paint_by (ground_last last) bright) b u n)

  pub frame-door-ground-last : Meets frame_door (state_bytes (started grey), blank, dim, [], filled)
      (a, s, frame_by (ground_last last) dim)
      → Meets frame_door (state_bytes (started grey), blank, bright, [], filled) (b, u, frame_by (ground_last last) bright) → ⊥
  frame-door-ground-last m n =
      dim-bright last (small.dim-promised).frame (small.bright-promised).frame
      (same-frame last ∙ frames dim (frame_by (ground_last last) dim) a s m)
      (frames bright (frame_by (ground_last last) bright) b u n)

  pub line-door-ground-last : Meets line_door (state_bytes (started grey), 0, blank, dim, [], filled)
      (a, s, frame_by (ground_last last) dim)
      → Meets line_door (state_bytes (started grey), 0, blank, bright, [], filled) (b, u, frame_by (ground_last last) bright) → ⊥
  line-door-ground-last m n =
      dim-bright last (small.dim-promised).scan (small.bright-promised).scan
      (same-frame last ∙ lines dim (frame_by (ground_last last) dim) a s m)
      (lines bright (frame_by (ground_last last) bright) b u n)
