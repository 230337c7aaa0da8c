-- Every state out of bytes fits its words, and every call keeps it so, where the call's own numbers fit
-- theirs. Assumes nothing.
use mathlib.Core.Path.{◌≡◌, refl, ◌∙◌}
use mathlib.Core.Logic.{⊎_elim}
use mathlib.Core.Bool.{true}
use mathlib.Core.List.{List}
use Prim.Native.Nat.{ℕ, zero, suc, ◌+◌, ◌*◌, ◌/◌, ◌^◌, ◌<◌}
use native.Mathlib.Omega.{arith}
use native.Mathlib.Nat.{mod-lt}
use borrow.Author.Tests.{ltb-true, eqb-true}
use lib.Bits.{or_lt, xor_lt}
use lib.Pow.{pow-lt, pow_pos}
use lib.Dec.{ltb, eqb}
use lib.Ieee.{Float}
use lib.ListN.{length, get_or, drop, replicate, set, length-set}
use lib.Seq.{get_or-drop, get_or-set_same, get_or-set_other}
use Rattle.lists.proofs.Choice.{same_or, pick-keeps, choose-keeps}
use Rattle.lists.proofs.Run.{run-keeps}
use Rattle.lists.proofs.Little.{little-fits}
use Rattle.answers.specs.Answers.{done, bank_full}
use Rattle.runs.specs.Writes.{Write, first_writes, writes_in}
use Rattle.runs.proofs.RunLaws.{Each, each-any}
use Rattle.runs.proofs.RunLaws as run
use Rattle.profiles.specs.declared.Profile.{Profile}
use Rattle.profiles.specs.Profile.{one_bit, two_bits}
use Rattle.profiles.proofs.ProfileLaws.{bits-few}
use Rattle.words.specs.Fields.{update_of, shown_of, layer_of}
use Rattle.words.specs.Order.{here}
use Rattle.words.proofs.ImageLaws.{words_long, words-fit}
use Rattle.tables.specs.Selection.{kind_of, end_of, controller_of}
use Rattle.tables.specs.declared.Selection.{Selection}
use Rattle.tables.proofs.Geometry.{kind-room, bank-le}
use Rattle.frames.specs.Scene.{Scene}
use Rattle.frames.specs.Band.{layer_step, depth_step, band_by, missing, mark_at, errors_of}
use Rattle.frames.specs.Frame.{refusal_of, errors_after}
use Rattle.frames.specs.Line.{line_refusal_of, line_errors_after}
use Rattle.display.specs.declared.Display.{Display}
use Rattle.display.specs.declared.Told.{Told}
use Rattle.display.specs.State.{bits_in, fresh, new_of, with_pending, with_active, with_frame, with_errors, with_selection}
use Rattle.display.specs.State.{stepped, write_of, select_of, check_in, start_of}
use Rattle.display.specs.Put.{put_answer, put_state, put_of}
use Rattle.display.specs.Runs.{lent, put_one, puts, put_run_of, write_one, writes, write_run_of}
use Rattle.display.specs.Paint.{scene_with, fill_told, paint_told, frame_told, line_told}
use Rattle.display.specs.Doors.{taken_of}
use Rattle.display.proofs.Sound.{below_end}
use Rattle.display.proofs.Arranged.{fresh-arranged}
use Rattle.doors.specs.Rows.{AreWords, Fits, Ask, ask-new, ask-write, ask-select, ask-toggle, ask-start, ask-put}
use Rattle.doors.specs.Rows.{ask-put-run, ask-write-run, ask-fill, ask-paint, ask-frame, ask-line, Typed, tells_of}

-- ---- out of bytes

pub taken-fits : (s : List ℕ) → ((i : ℕ) → get_or s i 0 < 256) → Fits (taken_of s)
unfolding taken_of
taken-fits s b =
    record {
      pending = words_long s 0;
      active = words_long s 208;
      pending-words = words-fit s b 0;
      active-words = words-fit s b 208;
      frame = little-fits s b 416;
      errors = little-fits s b 420;
      number = little-fits s b 428;
      place = little-fits s b 432;
      arranged = refl;
    }

-- ---- the fresh states; one of them is that of zeros

zeros-below : (n : ℕ) → AreWords (replicate n 0)
zeros-below zero i = omega arith
zeros-below (suc n) zero = omega arith
zeros-below (suc n) (suc i) = zeros-below n i

pub fresh-fits : (p : Profile) → Fits (fresh p)
fresh-fits p =
    record {
      pending = refl;
      active = refl;
      pending-words = zeros-below 52;
      active-words = zeros-below 52;
      frame = omega arith;
      errors = omega arith;
      number = omega arith;
      place = omega arith;
      arranged = fresh-arranged p;
    }

new-fits : (bits : ℕ) → Fits (new_of bits true).state
new-fits bits =
    choose-keeps (λ (t : Told). Fits t.state) (eqb bits 1) _ _ (λ _. fresh-fits (one_bit true))
    (λ _. choose-keeps (λ (t : Told). Fits t.state) (eqb bits 2) _ _ (λ _. fresh-fits (two_bits true))
    (λ _. fresh-fits (one_bit true)))

-- ---- a part replaced

module _ (d : Display) (f : Fits d) where
  active-kept : (w : List ℕ) → length w ≡ 52 → AreWords w → Fits (with_active d w)
  active-kept w l b =
      record {
        pending = f.pending;
        active = l;
        pending-words = f.pending-words;
        active-words = b;
        frame = f.frame;
        errors = f.errors;
        number = f.number;
        place = f.place;
        arranged = refl;
      }

  pending-kept : (w : List ℕ) → length w ≡ 52 → AreWords w → Fits (with_pending d w)
  pending-kept w l b =
      record {
        pending = l;
        active = f.active;
        pending-words = b;
        active-words = f.active-words;
        frame = f.frame;
        errors = f.errors;
        number = f.number;
        place = f.place;
        arranged = f.arranged;
      }

  numbers-kept : (frame errors : ℕ) (c : Selection) → frame < 2 ^ 32 → errors < 2 ^ 32 → c.number < 2 ^ 32
      → c.place < 2 ^ 32 → Fits (with_selection (with_errors (with_frame d frame) errors) c)
  numbers-kept frame errors c a b n p =
      record {
        pending = f.pending;
        active = f.active;
        pending-words = f.pending-words;
        active-words = f.active-words;
        frame = a;
        errors = b;
        number = n;
        place = p;
        arranged = f.arranged;
      }

  frame-kept : (frame : ℕ) → frame < 2 ^ 32 → Fits (with_frame d frame)
  frame-kept frame b = numbers-kept frame d.errors d.selection b f.errors f.number f.place

  errors-kept : (errors : ℕ) → errors < 2 ^ 32 → Fits (with_errors d errors)
  errors-kept errors b = numbers-kept d.frame errors d.selection f.frame b f.number f.place

  selection-kept : (c : Selection) → c.number < 2 ^ 32 → c.place < 2 ^ 32 → Fits (with_selection d c)
  selection-kept c n p = numbers-kept d.frame d.errors c f.frame f.errors n p

-- ---- the error word

bit-fits : (k : ℕ) → k < 32 → 2 ^ k < 2 ^ 32
bit-fits k h = pow-lt {i = k} {j = 32} h

-- painting sets bits 0 to 28 alone
mark-fits : (s : Scene) (n e : ℕ) → n < 8 → e < 2 ^ 32 → mark_at s n e < 2 ^ 32
unfolding mark_at
mark-fits s n e h b =
    pick-keeps (λ (x : ℕ). x < 2 ^ 32) (missing s n) _ _
    (λ t. or_lt 32 e (2 ^ (4 * n)) b (bit-fits (4 * n) (omega arith))) (λ t. b)

errors-fit : (s : Scene) (a b e : ℕ) → e < 2 ^ 32 → errors_of s a b e < 2 ^ 32
unfolding errors_of band_by depth_step layer_step
errors-fit s a b e h =
    pick-keeps (λ (x : ℕ). x < 2 ^ 32) (shown_of s.words) _ _
    (λ t. run-keeps (λ (x : ℕ). x < 2 ^ 32) a _ _ e
    (λ d q w p. run-keeps (λ (x : ℕ). x < 2 ^ 32) 0 8 _ q
    (λ n q' w' p'. pick-keeps (λ (x : ℕ). x < 2 ^ 32) (here (layer_of s.words n) d) _ _
    (λ t'. mark-fits s n q' (omega arith) p') (λ t'. p'))
    p)
    h)
    (λ t. h)

painted-fits : (s : Scene) (a b : ℕ) (out : List ℕ) (e : ℕ) → e < 2 ^ 32 → errors_after s a b out e < 2 ^ 32
unfolding errors_after
painted-fits s a b out e h =
    pick-keeps (λ (x : ℕ). x < 2 ^ 32) (eqb (refusal_of s a b out) done) _ _ (λ t. errors-fit s a b e h) (λ t. h)

-- ---- the calls

abbrev FitsTold : Told → Type 0
FitsTold t = Fits t.state

set-fits : (l : List ℕ) (r v : ℕ) → AreWords l → v < 2 ^ 32 → r < length l → AreWords (set l r v)
set-fits l r v h b lt i = ⊎_elim
    (λ (e : i ≡ r). rw (e, get_or-set_same l r v 0 lt) b)
    (λ (ne : i ≡ r → ⊥). rw (get_or-set_other l r i v 0 ne) (h i))
    (same_or i r)

module _ (d : Display) (f : Fits d) where
  write-fits : (register value : ℕ) → value < 2 ^ 32 → Fits (write_of d register value).state
  write-fits register value b =
      choose-keeps FitsTold (ltb register 52) _ _
      (λ h. let lt : register < 52 = ltb-true register 52 h in
      pending-kept d f _ (length-set d.pending register value ∙ f.pending)
      (set-fits d.pending register value f.pending-words b (omega (arith, f.pending))))
      (λ h. f)

  select-fits : (selection : ℕ) → Fits (select_of d selection).state
  select-fits selection =
      choose-keeps FitsTold (ltb selection 64) _ _
      (λ h. let lt : selection < 64 = ltb-true selection 64 h in
      selection-kept d f _ (omega arith) (omega arith))
      (λ h. f)

  stepped-fits : Fits (stepped d)
  stepped-fits = frame-kept d f _ (mod-lt (d.frame + 1) (pow_pos 32))

  start_fits : Fits (start_of d).state
  start_fits =
      choose-keeps FitsTold (update_of d.pending) _ _
      (λ u. choose-keeps FitsTold (eqb (check_in d) done) _ _
      (λ e. active-kept (stepped d) stepped-fits d.pending f.pending f.pending-words)
      (λ e. stepped-fits))
      (λ u. stepped-fits)

  put-fits : (tables : List ℕ) → Fits (put_of d tables).state
  unfolding put_of put_state
  put-fits tables =
      choose-keeps Fits (eqb (put_answer d tables) done) _ _
      (λ e. let h : d.selection.place < end_of (bits_in d) d.selection.number = below_end d tables (eqb-true _ _ e) in
      selection-kept d f _ f.number (omega
      (arith, kind-room (bits_in d) (kind_of d.selection.number), bank-le (bits_in d) (bits-few d.profile))))
      (λ e. choose-keeps Fits (eqb (put_answer d tables) bank_full) _ _
      (λ g. errors-kept d f _ (or_lt 32 d.errors _ f.errors
      (bit-fits (4 * controller_of d.selection.number + 1) (omega arith))))
      (λ g. f))

  paint-fits : (a b : ℕ) (tables pictures : List ℕ) (floats : List Float) (out : List ℕ)
      → Fits (paint_told d a b tables pictures floats out).state
  unfolding paint_told
  paint-fits a b tables pictures floats out =
      errors-kept d f _ (painted-fits (scene_with d tables pictures floats) a b out d.errors f.errors)

  fill-fits : (out : List ℕ) → Fits (fill_told d out).state
  unfolding fill_told
  fill-fits out = f

  frame-fits : (tables pictures : List ℕ) (floats : List Float) (out : List ℕ)
      → Fits (frame_told d tables pictures floats out).state
  unfolding frame_told
  frame-fits tables pictures floats out = paint-fits 0 8 tables pictures floats out

  line-fits : (y : ℕ) (tables pictures : List ℕ) (floats : List Float) (out : List ℕ)
      → Fits (line_told d y tables pictures floats out).state
  unfolding line_told line_errors_after
  line-fits y tables pictures floats out =
      let s = scene_with d tables pictures floats in
      errors-kept d f _
      (pick-keeps (λ (x : ℕ). x < 2 ^ 32) (eqb (line_refusal_of s y out) done) _ _
      (λ t. errors-fit s 0 8 d.errors f.errors) (λ t. f.errors))

-- ---- the runs: each call of one keeps it

-- the values of a run's writes are of four bytes
values-fit : (n : ℕ) (run : List ℕ) → ((i : ℕ) → get_or run i 0 < 256)
    → Each (λ (w : Write). w.value < 2 ^ 32) (first_writes n run)
unfolding first_writes
values-fit zero run b = tt
values-fit (suc n) run b =
    (little-fits run b 1, values-fit n (drop 5 run) (λ i. rw (get_or-drop 5 run i 0) (b (5 + i))))

module _ (d : Display) (f : Fits d) where
  put-run-fits : (tables run : List ℕ) → Fits (put_run_of d tables run).state
  unfolding put_run_of puts
  put-run-fits tables row =
      run.run-keeps put_one (λ l. Fits l.state) (λ x. Unit {0}) (λ l x q p. put-fits l.state p l.tables) row
      (lent d tables) (each-any row) f

  write-run-fits : (run : List ℕ) → ((i : ℕ) → get_or run i 0 < 256) → Fits (write_run_of d run).state
  unfolding write_run_of writes writes_in
  write-run-fits row b =
      run.run-keeps write_one Fits (λ w. w.value < 2 ^ 32) (λ e w q p. write-fits e p w.register w.value q)
      (writes_in row) d (values-fit (length row / 5) row b) f

  -- each of them
  pub call_fits : (a : Ask) → Typed a → Fits (tells_of a d).state
  call_fits (ask-new bits) t = new-fits bits
  call_fits (ask-write register value) t = write-fits d f register value t
  call_fits (ask-select selection) t = select-fits d f selection
  call_fits (ask-toggle bits) t = errors-kept d f _ (xor_lt 32 d.errors bits f.errors t)
  call_fits ask-start t = start_fits d f
  call_fits (ask-put tables byte) t = put-fits d f tables
  call_fits (ask-put-run tables run) t = put-run-fits tables run
  call_fits (ask-write-run run) t = write-run-fits run t
  call_fits (ask-fill out) t = fill-fits d f out
  call_fits (ask-paint low high tables pictures floats out) t = paint-fits d f low high tables pictures floats out
  call_fits (ask-frame tables pictures floats out) t = frame-fits d f tables pictures floats out
  call_fits (ask-line y tables pictures floats out) t = line-fits d f y tables pictures floats out
