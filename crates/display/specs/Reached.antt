-- The states that come to be, and what is so of each: 01 "What the display is made of", "only a fresh
-- state and what these calls made of it come in". Assumes nothing.
use Rattle.std.specs.Prelude.{◌≡◌, ℕ, ◌<◌, ◌≤◌, Bool, ◌⊎◌, List, length, replicate, Float}
use Rattle.words.specs.Check.{Accepted, LetIn}
use Rattle.order.specs.Layout.{layout_of}
use Rattle.tables.specs.Selection.{end_of}
use Rattle.display.specs.declared.Display.{Display}
use Rattle.display.specs.State.{bits_in, new_of, write_of, select_of, toggle_of, start_of}
use Rattle.display.specs.Put.{put_of}
use Rattle.display.specs.Paint.{fill_told, paint_told, frame_told, line_told}

-- the fresh states, and what each call makes of one that has come to be. Numbers are not held to 32 bits
-- nor bytes to 8, as the calls' types hold them, so that there are rather more states here than fewer. A run
-- makes none that its single calls do not (`laws/proofs/Runs`)
pub data Reached : Display → Type 0 where
  by-new : (bits : ℕ) (floats : Bool) → Reached (new_of bits floats).state
  by-write : {d : Display} (register value : ℕ) → Reached d → Reached (write_of d register value).state
  by-select : {d : Display} (selection : ℕ) → Reached d → Reached (select_of d selection).state
  by-toggle : {d : Display} (bits : ℕ) → Reached d → Reached (toggle_of d bits).state
  by-start : {d : Display} → Reached d → Reached (start_of d).state
  by-put : {d : Display} (tables : List ℕ) → Reached d → Reached (put_of d tables).state
  by-fill : {d : Display} (out : List ℕ) → Reached d → Reached (fill_told d out).state
  by-paint : {d : Display} (a b : ℕ) (tables pictures : List ℕ) (floats : List Float) (out : List ℕ) → Reached d
      → Reached (paint_told d a b tables pictures floats out).state
  by-frame : {d : Display} (tables pictures : List ℕ) (floats : List Float) (out : List ℕ) → Reached d
      → Reached (frame_told d tables pictures floats out).state
  by-line : {d : Display} (y : ℕ) (tables pictures : List ℕ) (floats : List Float) (out : List ℕ) → Reached d
      → Reached (line_told d y tables pictures floats out).state

-- 02 K5: "Every operation keeps it equal to what would be worked out afresh from the active words"
abbrev pub Arranged : Display → Type 0
Arranged d = d.layout ≡ layout_of d.active

-- there are 52 words of each; the active ones are all 0 or accepted, and have a float layer only where those are let in; the
-- selection is in range, and the place at most at its table's end; what is held for painting is that of the active words
pub record Sound (d : Display) : Type 0 where
  pub pending : length d.pending ≡ 52
  pub active : length d.active ≡ 52
  pub accepted : (d.active ≡ replicate 52 0) ⊎ Accepted d.active
  pub let_in : LetIn d.profile.floats d.active
  pub selection : d.selection.number < 64
  pub place : d.selection.place ≤ end_of (bits_in d) d.selection.number
  pub arranged : Arranged d
