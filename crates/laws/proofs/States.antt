-- What painting refuses in the states that come to be: until a start has let words in, everything
-- with 12; from then on only what the caller hands over, a band's ends and its buffers. Assumes nothing.
use Prim.Native.Nat.{ℕ, ◌≤◌}
use mathlib.Core.Path.{◌≡◌, refl, sym, ◌∙◌}
use mathlib.Core.Bool.{false}
use mathlib.Core.Logic.{◌⊎◌, ⊎_elim}
use mathlib.Core.List.{List, []}
use native.Mathlib.Omega.{arith}
use borrow.Author.Tests.{eq-eqb, ne_eqb, le-leb}
use lib.Ieee.{Float}
use lib.ListN.{length}
use Rattle.lists.specs.Choice.{or_else}
use Rattle.answers.specs.Answers.{done, no_size}
use Rattle.words.specs.Check.{Accepted}
use Rattle.words.specs.Fields.{width_of, height_of}
use Rattle.frames.specs.Frame as painting
use Rattle.frames.specs.Line.{number_refusal, length_refusal, line_refusal}
use Rattle.display.specs.declared.Display.{Display}
use Rattle.display.specs.State.{bits_in}
use Rattle.display.specs.Reached.{Reached}
use Rattle.display.specs.Paint.{fill_told, paint_told, frame_told, line_told}
use Rattle.display.proofs.Sound.{reached-sound}
use Rattle.laws.proofs.Rows.{frame-no-18}
use Rattle.laws.specs.States.{Unstarted, Fitting, buffer_refusal}

-- ---- the active words

pub active-accepted : {d : Display} → Reached d → Unstarted d ⊎ Accepted d.active
active-accepted r = (reached-sound r).accepted

-- words that a start has let in have a size
accepted-sized : (w : List ℕ) → Accepted w → painting.size_refusal w ≡ done
accepted-sized w a =
    rw (
      ne_eqb (width_of w) 0 (λ q. omega (arith, a.wide)),
      ne_eqb (height_of w) 0 (λ q. omega (arith, a.tall)),
    )

sized : {d : Display} → Reached d → (Unstarted d → ⊥) → painting.size_refusal d.active ≡ done
sized {d} r started =
    ⊎_elim (λ (u : Unstarted d). absurd (started u)) (λ a. accepted-sized d.active a) (active-accepted r)

-- ---- before the first accepted start

module _ (d : Display) (u : Unstarted d) (tables pictures : List ℕ) (floats : List Float) (out : List ℕ) where
  pub unstarted-fill : (fill_told d out).answer ≡ no_size
  unfolding fill_told painting.fill_refusal
  unstarted-fill = rw u

  pub unstarted-paint : (a b : ℕ) → a ≤ b → b ≤ 8 → (paint_told d a b tables pictures floats out).answer ≡ no_size
  unfolding paint_told painting.errors_after painting.paint_refusal
  unstarted-paint a b ab b8 = rw (u, le-leb a b ab, le-leb b 8 b8)

  pub unstarted-frame : (frame_told d tables pictures floats out).answer ≡ no_size
  unfolding frame_told paint_told painting.errors_after painting.paint_refusal
  unstarted-frame = rw u

  pub unstarted-line : (y : ℕ) → (line_told d y tables pictures floats out).answer ≡ no_size
  unfolding line_told line_refusal
  unstarted-line y = rw u

-- ---- after it

module _ {d : Display} (r : Reached d) (started : Unstarted d
    → ⊥) (tables pictures : List ℕ) (floats : List Float) (out : List ℕ) where
  -- "painting's only refusals": 13
  pub started-fill : (fill_told d out).answer ≡ painting.output_refusal d.active (length out)
  unfolding fill_told painting.fill_refusal
  started-fill = rw (sized r started)

  -- 15, 13, 6, 14, 18
  pub started-paint : (a b : ℕ) → (paint_told d a b tables pictures floats out).answer
      ≡ or_else (painting.band_refusal a b) (buffer_refusal d tables pictures floats out)
  unfolding paint_told painting.errors_after painting.paint_refusal
  started-paint a b = rw (sized r started)

  pub started-frame : (frame_told d tables pictures floats out).answer ≡ buffer_refusal d tables pictures floats out
  unfolding frame_told paint_told painting.errors_after painting.paint_refusal
  started-frame = rw (sized r started)

  -- 15, 13, 6, 14, 18
  pub started-line : (y : ℕ) → (line_told d y tables pictures floats out).answer
      ≡ or_else (number_refusal d.active y)
      (or_else (length_refusal d.active (length out))
      (or_else (painting.tables_refusal (bits_in d) (length tables))
      (or_else (painting.pictures_refusal d.active (length pictures)) (painting.floats_refusal d.active (length floats)))))
  unfolding line_told line_refusal
  started-line y = rw (sized r started)

  -- so with a band 0..8 or a part of it, and the buffers that the words ask for, it is done
  module _ (fits : Fitting d tables pictures floats out) where
    none : buffer_refusal d tables pictures floats out ≡ done
    none = rw (eq-eqb _ _ fits.output, eq-eqb _ _ fits.tables, eq-eqb _ _ fits.pictures, eq-eqb _ _ fits.floats)

    pub fitting-fill : (fill_told d out).answer ≡ done
    fitting-fill = started-fill ∙ rw (eq-eqb _ _ fits.output)

    pub fitting-paint : (a b : ℕ) → a ≤ b → b ≤ 8 → (paint_told d a b tables pictures floats out).answer ≡ done
    fitting-paint a b ab b8 = started-paint a b ∙ rw (le-leb a b ab, le-leb b 8 b8) none

    pub fitting-frame : (frame_told d tables pictures floats out).answer ≡ done
    fitting-frame = started-frame ∙ none

-- 02 K7: a state that is made without float layers, as the sheet program's is, is never refused with 18 where no floats are lent
pub reached-no-18 : {d : Display} → Reached d → d.profile.floats ≡ false → (tables pictures out : List ℕ)
    → (frame_told d tables pictures [] out).answer ≡ 18 → ⊥
reached-no-18 {d} r e tables pictures out q =
    frame-no-18 d tables pictures [] out (λ n h f. sym e ∙ (reached-sound r).let_in n h f) refl q
