-- What is held for painting is that of the active words: of a fresh state, and after every call, refused or not: 02 K5.
-- Assumes nothing.
use Rattle.std.proofs.Common.{ℕ, Bool, eqb, ltb, List, refl}
use lib.Ieee.{Float}
use Rattle.lists.proofs.Choice.{choose-keeps}
use Rattle.answers.specs.Answers.{done, bank_full}
use Rattle.profiles.specs.declared.Profile.{Profile}
use Rattle.words.specs.Fields.{update_of}
use Rattle.order.proofs.LayoutLaws.{layout-none}
use Rattle.display.specs.declared.Display.{Display}
use Rattle.display.specs.declared.Told.{Told}
use Rattle.display.specs.State.{fresh, new_of, write_of, select_of, toggle_of, check_in, start_of}
use Rattle.display.specs.Put.{put_answer, put_state, put_of}
use Rattle.display.specs.Runs.{put_run_of, write_run_of}
use Rattle.display.specs.Paint.{fill_told, paint_told, frame_told, line_told}
use Rattle.display.specs.Reached.{Reached, Arranged}
use Rattle.display.proofs.RunLaws.{put-run-is, write-run-is}
use Rattle.display.proofs.Sound.{reached-sound}

abbrev ArrangedTold : Told → Type 0
ArrangedTold t = Arranged t.state

pub fresh-arranged : (p : Profile) → Arranged (fresh p)
fresh-arranged p = layout-none

pub new-arranged : (bits : ℕ) (floats : Bool) → Arranged (new_of bits floats).state
new-arranged bits floats =
    choose-keeps ArrangedTold (eqb bits 1) _ _ (λ _. layout-none)
    (λ _. choose-keeps ArrangedTold (eqb bits 2) _ _ (λ _. layout-none) (λ _. layout-none))

module _ (d : Display) (a : Arranged d) where
  pub write-arranged : (register value : ℕ) → Arranged (write_of d register value).state
  write-arranged register value = choose-keeps ArrangedTold (ltb register 52) _ _ (λ _. a) (λ _. a)

  pub select-arranged : (selection : ℕ) → Arranged (select_of d selection).state
  select-arranged selection = choose-keeps ArrangedTold (ltb selection 64) _ _ (λ _. a) (λ _. a)

  pub toggle-arranged : (bits : ℕ) → Arranged (toggle_of d bits).state
  toggle-arranged bits = a

  pub put-arranged : (tables : List ℕ) → Arranged (put_of d tables).state
  unfolding put_of put_state
  put-arranged tables =
      choose-keeps Arranged (eqb (put_answer d tables) done) _ _ (λ _. a)
      (λ _. choose-keeps Arranged (eqb (put_answer d tables) bank_full) _ _ (λ _. a) (λ _. a))

  pub put-run-arranged : (tables run : List ℕ) → Arranged (put_run_of d tables run).state
  put-run-arranged tables run = rw (← (put-run-is d tables run _ _ refl refl).0) a

  pub write-run-arranged : (run : List ℕ) → Arranged (write_run_of d run).state
  write-run-arranged run = rw (← (write-run-is d run _ _ refl refl)) a

  pub fill-arranged : (out : List ℕ) → Arranged (fill_told d out).state
  unfolding fill_told
  fill-arranged out = a

  pub paint-arranged : (low high : ℕ) (tables pictures : List ℕ) (floats : List Float) (out : List ℕ)
      → Arranged (paint_told d low high tables pictures floats out).state
  unfolding paint_told
  paint-arranged low high tables pictures floats out = a

  pub frame-arranged : (tables pictures : List ℕ) (floats : List Float) (out : List ℕ)
      → Arranged (frame_told d tables pictures floats out).state
  unfolding frame_told
  frame-arranged tables pictures floats out = paint-arranged 0 8 tables pictures floats out

  pub line-arranged : (y : ℕ) (tables pictures : List ℕ) (floats : List Float) (out : List ℕ)
      → Arranged (line_told d y tables pictures floats out).state
  unfolding line_told
  line-arranged y tables pictures floats out = a

  -- the words that a start copies bring theirs; else nothing of it changes
  pub start-arranged : Arranged (start_of d).state
  start-arranged =
      choose-keeps ArrangedTold (update_of d.pending) _ _
      (λ _. choose-keeps ArrangedTold (eqb (check_in d) done) _ _ (λ _. refl) (λ _. a)) (λ _. a)

-- so it is of every state that comes to be
pub reached-arranged : {d : Display} → Reached d → Arranged d
reached-arranged r = (reached-sound r).arranged
