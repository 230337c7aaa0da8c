-- Every state that comes to be is sound: the fresh one is, and every call keeps it.
-- Assumes nothing.
use Rattle.std.proofs.Common.{◌≡◌, ℕ, ◌<◌, Bool, eqb, ltb, List, length, refl, ◌∙◌, inl, inr, arith, length-set, ltb-true, eqb-true}
use lib.Ieee.{Float}
use Rattle.lists.specs.Choice.{pick}
use Rattle.answers.specs.Answers.{done, not_selected, bank_active, bank_full, tables_length}
use Rattle.profiles.specs.declared.Profile.{Profile}
use Rattle.profiles.specs.Profile.{one_bit, two_bits}
use Rattle.words.specs.Fields.{update_of}
use Rattle.words.proofs.CheckLaws.{check-accepted, check-let, zeros-let}
use Rattle.order.proofs.LayoutLaws.{layout-none}
use Rattle.tables.specs.Geometry.{tables_len}
use Rattle.tables.specs.Selection.{end_of, named_by}
use Rattle.lists.proofs.Choice.{choose-keeps, lets-through, or_else-right}
use Rattle.display.specs.declared.Display.{Display}
use Rattle.display.specs.declared.Told.{Told}
use Rattle.display.specs.State.{bits_in, fresh, with_errors, stepped, new_of, write_of, select_of, toggle_of}
use Rattle.display.specs.State.{check_in, start_of}
use Rattle.display.specs.Put.{put_answer, put_state, put_of}
use Rattle.display.specs.Paint.{fill_told, paint_told, frame_told, line_told}
use Rattle.display.specs.Reached.{Reached, by-new, by-write, by-select, by-toggle, by-start, by-put, by-fill}
use Rattle.display.specs.Reached.{by-paint, by-frame, by-line, Sound}

abbrev SoundTold : Told → Type 0
SoundTold t = Sound t.state

pub fresh-sound : (p : Profile) → Sound (fresh p)
fresh-sound p =
    record {
      pending = refl;
      active = refl;
      accepted = inl refl;
      let_in = zeros-let p.floats;
      selection = omega arith;
      place = omega arith;
      arranged = layout-none;
    }

pub new-sound : (bits : ℕ) (floats : Bool) → Sound (new_of bits floats).state
new-sound bits floats =
    choose-keeps SoundTold (eqb bits 1) _ _ (λ _. fresh-sound (one_bit floats))
    (λ _. choose-keeps SoundTold (eqb bits 2) _ _ (λ _. fresh-sound (two_bits floats)) (λ _. fresh-sound (one_bit floats)))

-- a byte is stored below the table's end alone
pub below_end : (d : Display) (tables : List ℕ) → put_answer d tables ≡ done
    → d.selection.place < end_of (bits_in d) d.selection.number
unfolding put_answer
below_end d tables e =
    let p = or_else-right (pick (eqb (length tables) (tables_len (bits_in d))) done tables_length) _ e in
    let q = or_else-right (pick d.selection.made done not_selected) _ p in
    let r = or_else-right (pick (named_by d.active d.selection.number) bank_active done) _ q in
    ltb-true _ _ (lets-through (ltb d.selection.place (end_of (bits_in d) d.selection.number)) 4 r)

module _ (d : Display) (s : Sound d) where
  pub write-sound : (register value : ℕ) → Sound (write_of d register value).state
  write-sound register value =
      choose-keeps SoundTold (ltb register 52) _ _
      (λ h. record {
        pending = length-set d.pending register value ∙ s.pending;
        active = s.active;
        accepted = s.accepted;
        let_in = s.let_in;
        selection = s.selection;
        place = s.place;
        arranged = s.arranged;
      })
      (λ h. s)

  pub select-sound : (selection : ℕ) → Sound (select_of d selection).state
  select-sound selection =
      choose-keeps SoundTold (ltb selection 64) _ _
      (λ h. record {
        pending = s.pending;
        active = s.active;
        accepted = s.accepted;
        let_in = s.let_in;
        selection = ltb-true selection 64 h;
        place = omega arith;
        arranged = s.arranged;
      })
      (λ h. s)

  -- the error word is any: toggling, a full bank and painting change it alone
  errors-sound : (errors : ℕ) → Sound (with_errors d errors)
  errors-sound errors =
      record {
        pending = s.pending;
        active = s.active;
        accepted = s.accepted;
        let_in = s.let_in;
        selection = s.selection;
        place = s.place;
        arranged = s.arranged;
      }

  pub toggle-sound : (bits : ℕ) → Sound (toggle_of d bits).state
  toggle-sound bits = errors-sound _

  stepped-sound : Sound (stepped d)
  stepped-sound =
      record {
        pending = s.pending;
        active = s.active;
        accepted = s.accepted;
        let_in = s.let_in;
        selection = s.selection;
        place = s.place;
        arranged = s.arranged;
      }

  pub start-sound : Sound (start_of d).state
  start-sound =
      choose-keeps SoundTold (update_of d.pending) _ _
      (λ u. choose-keeps SoundTold (eqb (check_in d) done) _ _
      (λ e. record {
        pending = s.pending;
        active = s.pending;
        accepted = inr (check-accepted _ _ (eqb-true _ _ e));
        let_in = check-let _ _ (eqb-true _ _ e);
        selection = s.selection;
        place = s.place;
        arranged = refl;
      })
      (λ e. stepped-sound))
      (λ u. stepped-sound)

  pub put-sound : (tables : List ℕ) → Sound (put_of d tables).state
  unfolding put_of put_state
  put-sound tables =
      choose-keeps Sound (eqb (put_answer d tables) done) _ _
      (λ e. let h : d.selection.place < end_of (bits_in d) d.selection.number = below_end d tables (eqb-true _ _ e) in
      record {
        pending = s.pending;
        active = s.active;
        accepted = s.accepted;
        let_in = s.let_in;
        selection = s.selection;
        place = omega arith;
        arranged = s.arranged;
      })
      (λ e. choose-keeps Sound (eqb (put_answer d tables) bank_full) _ _
      (λ f. errors-sound _) (λ f. s))

  pub fill-sound : (out : List ℕ) → Sound (fill_told d out).state
  unfolding fill_told
  fill-sound out = s

  pub paint-sound : (a b : ℕ) (tables pictures : List ℕ) (floats : List Float) (out : List ℕ)
      → Sound (paint_told d a b tables pictures floats out).state
  unfolding paint_told
  paint-sound a b tables pictures floats out = errors-sound _

  pub frame-sound : (tables pictures : List ℕ) (floats : List Float) (out : List ℕ)
      → Sound (frame_told d tables pictures floats out).state
  unfolding frame_told
  frame-sound tables pictures floats out = paint-sound 0 8 tables pictures floats out

  pub line-sound : (y : ℕ) (tables pictures : List ℕ) (floats : List Float) (out : List ℕ)
      → Sound (line_told d y tables pictures floats out).state
  unfolding line_told
  line-sound y tables pictures floats out = errors-sound _

pub reached-sound : {d : Display} → Reached d → Sound d
reached-sound (by-new bits floats) = new-sound bits floats
reached-sound (by-write {d} register value r) = write-sound d (reached-sound r) register value
reached-sound (by-select {d} selection r) = select-sound d (reached-sound r) selection
reached-sound (by-toggle {d} bits r) = toggle-sound d (reached-sound r) bits
reached-sound (by-start {d} r) = start-sound d (reached-sound r)
reached-sound (by-put {d} tables r) = put-sound d (reached-sound r) tables
reached-sound (by-fill {d} out r) = fill-sound d (reached-sound r) out
reached-sound (by-paint {d} a b tables pictures floats out r) = paint-sound d (reached-sound r) a b tables pictures floats out
reached-sound (by-frame {d} tables pictures floats out r) = frame-sound d (reached-sound r) tables pictures floats out
reached-sound (by-line {d} y tables pictures floats out r) = line-sound d (reached-sound r) y tables pictures floats out
