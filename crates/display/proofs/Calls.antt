-- What a caller may rely on, from the definitions of the calls. Assumes nothing.
use Rattle.std.proofs.Common.{◌≡◌, ℕ, ◌+◌, ◌%◌, ◌^◌, ◌<◌, true, false, eqb, List, length, refl, ap, ap₂, lt-ltb, ne_eqb}
use lib.Ieee.{Float}
use Rattle.lists.proofs.Choice.{choose-keeps}
use Rattle.lists.proofs.Bits.{xor-twice}
use Rattle.answers.specs.Answers.{done}
use Rattle.words.specs.Fields.{update_of}
use Rattle.display.specs.declared.Display.{Display}
use Rattle.display.specs.declared.Told.{Told}
use Rattle.frames.proofs.CallerLaws.{length-frame_after, frame_after-is, refusal_of-is, errors_after-is}
use Rattle.display.specs.Paint.{scene_with, fill_bytes, paint_told, paint_bytes, frame_told, frame_bytes}
use Rattle.display.specs.State.{told, with_active, with_errors, fresh_selection, stepped, select_of, toggle_of}
use Rattle.display.specs.State.{check_in, start_of}

-- ---- start

module _ (d : Display) where
  abbrev Stepped : Told → Type 0
  Stepped t = t.state.frame ≡ (d.frame + 1) % 2 ^ 32

  abbrev Kept : Told → Type 0
  Kept t = (t.answer ≡ done → ⊥) → t.state.active ≡ d.active

  -- what is so in each of a start's three cases
  start-each : (P : Told → Type 0) → P (told (with_active (stepped d) d.pending) done)
      → P (told (stepped d) (check_in d)) → P (told (stepped d) done) → P (start_of d)
  start-each P passed refused clear =
      choose-keeps P (update_of d.pending) _ _
      (λ u. choose-keeps P (eqb (check_in d) done) _ _ (λ e. passed) (λ e. refused)) (λ u. clear)

  -- the frame number steps at every start
  pub start-steps : (start_of d).state.frame ≡ (d.frame + 1) % 2 ^ 32
  start-steps = start-each Stepped refl refl refl

  -- and a refused one leaves the active words
  pub start-keeps : ((start_of d).answer ≡ done → ⊥) → (start_of d).state.active ≡ d.active
  start-keeps = start-each Kept (λ ne. absurd (ne refl)) (λ ne. refl) (λ ne. refl)

  -- with the update bit clear nothing is checked or copied
  pub start-clear : update_of d.pending ≡ false → start_of d ≡ told (stepped d) done
  start-clear u = rw u

  -- with it set, words that pass become the active ones
  pub start-passed : update_of d.pending ≡ true → check_in d ≡ done → start_of d
      ≡ told (with_active (stepped d) d.pending) done
  start-passed u e = rw (u, e)

  -- and words that do not pass leave the active ones, and what is held of them
  pub start-refused : update_of d.pending ≡ true → (check_in d ≡ done → ⊥)
      → start_of d ≡ told (stepped d) (check_in d)
  start-refused u ne = rw (u, ne_eqb _ _ ne)

  -- ---- select: from the first byte on, also of the bank that is selected already

  pub select-again : (selection : ℕ) → selection < 64 → select_of d selection ≡ told (fresh_selection d selection) done
  select-again selection h = rw (lt-ltb _ _ h)

  -- ---- toggle: twice the same bits change nothing

  pub toggle-toggle : (bits : ℕ) → toggle_of (toggle_of d bits).state bits ≡ told d done
  toggle-toggle bits = ap (λ (e : ℕ). told (with_errors d e) done) (xor-twice d.errors bits)

  -- ---- frame: a fill and band 0..8

  pub frame-fill-paint : (tables pictures : List ℕ) (floats : List Float) (out : List ℕ)
      → (frame_told d tables pictures floats out).answer ≡ done
      → (frame_bytes d tables pictures floats out ≡ paint_bytes d 0 8 tables pictures floats (fill_bytes d out))
      × (frame_told d tables pictures floats out ≡ paint_told d 0 8 tables pictures floats (fill_bytes d out))
  unfolding frame_told frame_bytes paint_told paint_bytes fill_bytes
  frame-fill-paint tables pictures floats out e =
      let s = scene_with d tables pictures floats in (
        frame_after-is s out e,
        ap₂ (λ (m n : ℕ). told (with_errors d m) n) (errors_after-is s out e d.errors) (refusal_of-is s out e),
      )

  -- and the output is as long as before
  pub length-frame_bytes : (tables pictures : List ℕ) (floats : List Float) (out : List ℕ)
      → length (frame_bytes d tables pictures floats out) ≡ length out
  unfolding frame_bytes
  length-frame_bytes tables pictures floats out = length-frame_after (scene_with d tables pictures floats) out
