-- Each call keeps the layers arranged: the laws of `display/proofs/Arranged`, by the equation that
-- the call promises. Assumes nothing.
use Rattle.std.proofs.Common.{◌≡◌, ℕ, Bool, List, rules}
use lib.Ieee.{Float}
use Rattle.display.specs.declared.Display.{Display}
use Rattle.display.specs.declared.Told.{Told}
use Rattle.display.specs.declared.Ran.{Ran}
use Rattle.display.specs.State.{new_of, write_of, select_of, toggle_of, start_of}
use Rattle.display.specs.Put.{put_of}
use Rattle.display.specs.Runs.{put_run_of, write_run_of}
use Rattle.display.specs.Paint.{fill_told, paint_told, frame_told, line_told}
use Rattle.display.specs.Reached.{Arranged}
use Rattle.display.proofs.Arranged.{new-arranged, write-arranged, select-arranged, toggle-arranged, start-arranged}
use Rattle.display.proofs.Arranged.{put-arranged, put-run-arranged, write-run-arranged, fill-arranged}
use Rattle.display.proofs.Arranged.{paint-arranged, frame-arranged, line-arranged}

pub new-kept : (t : Told) (bits : ℕ) (floats : Bool) → t ≡ new_of bits floats → Arranged t.state
new-kept t bits floats e = rw e (new-arranged bits floats)

module _ (d : Display) (a : Arranged d) (t : Told) where
  pub write_kept : (register value : ℕ) → t ≡ write_of d register value → Arranged t.state
  write_kept register value e = rw e (write-arranged d a register value)

  pub select_kept : (selection : ℕ) → t ≡ select_of d selection → Arranged t.state
  select_kept selection e = rw e (select-arranged d a selection)

  pub toggle-kept : (bits : ℕ) → t ≡ toggle_of d bits → Arranged t.state
  toggle-kept bits e = rw e (toggle-arranged d a bits)

  pub start-kept : t ≡ start_of d → Arranged t.state
  start-kept e = rw e (start-arranged d a)

  pub put-kept : (tables : List ℕ) → t ≡ put_of d tables → Arranged t.state
  put-kept tables e = rw e (put-arranged d a tables)

  pub fill-kept : (out : List ℕ) → t ≡ fill_told d out → Arranged t.state
  fill-kept out e = rw e (fill-arranged d a out)

  pub paint-kept : (low high : ℕ) (tables pictures : List ℕ) (floats : List Float) (out : List ℕ)
      → t ≡ paint_told d low high tables pictures floats out → Arranged t.state
  paint-kept low high tables pictures floats out e = rw e (paint-arranged d a low high tables pictures floats out)

  pub frame-kept : (tables pictures : List ℕ) (floats : List Float) (out : List ℕ)
      → t ≡ frame_told d tables pictures floats out → Arranged t.state
  frame-kept tables pictures floats out e = rw e (frame-arranged d a tables pictures floats out)

  pub line_kept : (y : ℕ) (tables pictures : List ℕ) (floats : List Float) (out : List ℕ)
      → t ≡ line_told d y tables pictures floats out → Arranged t.state
  line_kept y tables pictures floats out e = rw e (line-arranged d a y tables pictures floats out)

module _ (d : Display) (a : Arranged d) (r : Ran) where
  pub put-run-kept : (tables run : List ℕ) → r ≡ put_run_of d tables run → Arranged r.state
  put-run-kept tables run e = rw e (put-run-arranged d a tables run)

  pub write-run-kept : (run : List ℕ) → r ≡ write_run_of d run → Arranged r.state
  write-run-kept run e = rw e (write-run-arranged d a run)

pub ruleset kept = (
  new-kept,
  write_kept,
  select_kept,
  toggle-kept,
  start-kept,
  put-kept,
  fill-kept,
  paint-kept,
  frame-kept,
  line_kept,
  put-run-kept,
  write-run-kept,
  rules,
)
