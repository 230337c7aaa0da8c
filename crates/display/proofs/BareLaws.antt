-- A call that paints nothing does not see what is held for painting: what it answers, and what it leaves as bytes, is
-- the same. Assumes nothing.
use Rattle.std.proofs.Common.{◌≡◌, ℕ, ◌+◌, ◌*◌, ◌^◌, Bool, true, false, eqb, ltb, List, set, sym, refl, ap, ◌∙◌}
use lib.Bits.{bit_or, bit_xor}
use Rattle.lists.specs.Choice.{choose}
use Rattle.answers.specs.Answers.{done, no_register, no_selection, bank_full}
use Rattle.words.specs.Fields.{update_of}
use Rattle.order.specs.declared.Layout.{Layout}
use Rattle.tables.specs.Selection.{controller_of}
use Rattle.display.specs.declared.Display.{Display}
use Rattle.display.specs.declared.Told.{Told}
use Rattle.display.specs.declared.Ran.{Ran}
use Rattle.display.specs.State.{told, with_pending, with_active, with_errors, with_place, fresh_selection}
use Rattle.display.specs.State.{stepped, write_of, select_of, toggle_of, check_in, start_of}
use Rattle.display.specs.Put.{put_answer, put_state, put_of, put_tables}
use Rattle.display.specs.Runs.{told_by, put_run_of, put_run_tables, write_run_of}
use Rattle.display.specs.Paint.{fill_told, fill_bytes}
use Rattle.display.specs.Doors.{with_layout, last_words, state_words, state_bytes}
use Rattle.display.proofs.DoorLaws.{Alike, Blind}
use Rattle.display.proofs.RunLaws.{put-run-is, write-run-is}

-- ---- the bytes of a state do not have it

bytes-bare : (d : Display) (l : Layout) → state_bytes (with_layout d l) ≡ state_bytes d
unfolding state_bytes state_words last_words
bytes-bare d l = refl

same : (t : Told) → Alike t t
same t = record { answer = refl; state = refl }

left_out : (d : Display) (l : Layout) (answer : ℕ) → Alike (told (with_layout d l) answer) (told d answer)
left_out d l answer = record { answer = refl; state = bytes-bare d l }

alike-choose : (t : Bool) {x x' y y' : Told} → Alike x x' → Alike y y' → Alike (choose t x y) (choose t x' y')
alike-choose true p q = p
alike-choose false p q = q

bytes-choose : (t : Bool) (x x' y y' : Display) → state_bytes x ≡ state_bytes x' → state_bytes y ≡ state_bytes y'
    → state_bytes (choose t x y) ≡ state_bytes (choose t x' y')
bytes-choose true x x' y y' p q = p
bytes-choose false x x' y y' p q = q

-- ---- call by call

pub write-blind : (register value : ℕ) → Blind (λ d. write_of d register value) (λ d. write_of d register value)
write-blind register value =
    record {
      alike = λ d l. alike-choose (ltb register 52) (left_out (with_pending d (set d.pending register value)) l done)
          (left_out d l no_register);
    }

pub select-blind : (selection : ℕ) → Blind (λ d. select_of d selection) (λ d. select_of d selection)
select-blind selection =
    record {
      alike = λ d l. alike-choose (ltb selection 64) (left_out (fresh_selection d selection) l done)
          (left_out d l no_selection);
    }

pub toggle-blind : (bits : ℕ) → Blind (λ d. toggle_of d bits) (λ d. toggle_of d bits)
toggle-blind bits = record { alike = λ d l. left_out (with_errors d (bit_xor d.errors bits)) l done }

-- a start, also where what is held is left as it was
pub start-blind : Blind (λ d. told (with_layout (start_of d).state d.layout) (start_of d).answer) start_of
start-blind =
    record {
      alike = λ d l. let s : Alike (start_of (with_layout d l)) (start_of d) = alike-choose (update_of d.pending)
          (alike-choose (eqb (check_in d) done) (same (told (with_active (stepped d) d.pending) done))
          (left_out (stepped d) l (check_in d)))
          (left_out (stepped d) l done) in
          record { answer = s.answer; state = bytes-bare (start_of (with_layout d l)).state l ∙ s.state };
    }

pub put-blind : (tables : List ℕ) → Blind (λ d. put_of d tables) (λ d. put_of d tables)
unfolding put_of put_state put_answer
put-blind tables =
    record {
      alike = λ d l. record {
        answer = refl;
        state =
            bytes-choose (eqb (put_answer d tables) done) _ _ _ _ (bytes-bare (with_place d (d.selection.place + 1)) l)
            (bytes-choose (eqb (put_answer d tables) bank_full) _ _ _ _
            (bytes-bare (with_errors d (bit_or d.errors (2 ^ (4 * controller_of d.selection.number + 1)))) l)
            (bytes-bare d l));
      };
    }

pub put-tables-blind : (tables : List ℕ) (byte : ℕ) (d : Display) (l : Layout)
    → put_tables (with_layout d l) tables byte ≡ put_tables d tables byte
unfolding put_tables put_answer
put-tables-blind tables byte d l = refl

pub fill-blind : (out : List ℕ) → Blind (λ d. fill_told d out) (λ d. fill_told d out)
unfolding fill_told
fill-blind out = record { alike = λ d l. left_out d l _ }

pub fill-bytes-blind : (out : List ℕ) (d : Display) (l : Layout) → fill_bytes (with_layout d l) out ≡ fill_bytes d out
unfolding fill_bytes
fill-bytes-blind out d l = refl

-- ---- runs, by what they load

module _ (tables run : List ℕ) where
  pub put-run-blind : Blind (λ d. told_by (put_run_of d tables run)) (λ d. told_by (put_run_of d tables run))
  put-run-blind =
      record {
        alike = λ d l. rw (
          ← (put-run-is (with_layout d l) tables run _ _ refl refl).0,
          ← (put-run-is d tables run _ _ refl refl).0,
        ) (left_out _ l _);
      }

  pub put-run-tables-blind : (d : Display) (l : Layout)
      → put_run_tables (with_layout d l) tables run ≡ put_run_tables d tables run
  put-run-tables-blind d l =
      sym (put-run-is (with_layout d l) tables run _ _ refl refl).1 ∙ (put-run-is d tables run _ _ refl refl).1

  pub put-run-done-blind : (d : Display) (l : Layout)
      → (put_run_of (with_layout d l) tables run).done ≡ (put_run_of d tables run).done
  put-run-done-blind d l =
      sym (ap (λ (r : Ran). r.done) (put-run-is (with_layout d l) tables run _ _ refl refl).0)
      ∙ ap (λ (r : Ran). r.done) (put-run-is d tables run _ _ refl refl).0

module _ (run : List ℕ) where
  pub write-run-blind : Blind (λ d. told_by (write_run_of d run)) (λ d. told_by (write_run_of d run))
  write-run-blind =
      record {
        alike = λ d l. rw (
          ← (write-run-is (with_layout d l) run _ _ refl refl),
          ← (write-run-is d run _ _ refl refl),
        ) (left_out _ l _);
      }

  pub write-run-done-blind : (d : Display) (l : Layout) → (write_run_of (with_layout d l) run).done ≡ (write_run_of d run).done
  write-run-done-blind d l =
      sym (ap (λ (r : Ran). r.done) (write-run-is (with_layout d l) run _ _ refl refl))
      ∙ ap (λ (r : Ran). r.done) (write-run-is d run _ _ refl refl)
