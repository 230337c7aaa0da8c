-- Each door's contract is the equation with its definitions, and so no two outcomes meet it: a law
-- CALL-door-tie and a law CALL-door-unique of each. `Post` is the door's own `ensures`, as the check reads it
-- in `display/src/doors.rt`. An outcome is the answer and every byte of the state and of the buffer that the
-- call writes. Assumes nothing.
use Prim.Native.Nat.{ℕ}
use mathlib.Core.Bool.{true}
use mathlib.Core.List.{List}
use lib.Ieee.{Float}
use Rattle.lists.specs.Call.{Call, call_of, Tied, OneOutcome}
use Rattle.lists.proofs.Call.{itself, pair_is, triple-is, quadruple-is, tied-unique}
use Rattle.words.specs.Fields.{width_of, height_of}
use Rattle.display.specs.State.{new_of, write_of, select_of, toggle_of, start_of}
use Rattle.display.specs.Put.{put_of, put_tables}
use Rattle.display.specs.Runs.{told_by, put_run_of, put_run_tables, write_run_of}
use Rattle.display.specs.Paint.{fill_told, fill_bytes, paint_told, paint_bytes, frame_told, frame_bytes, line_told, line_bytes}
use Rattle.display.specs.Doors.{door_answer, door_state, door_buffer, door_read}
use Rattle.display.proofs.doors.spoonwing_display_new.Reads as new
use Rattle.display.proofs.doors.spoonwing_display_write.Reads as write
use Rattle.display.proofs.doors.spoonwing_display_select.Reads as select
use Rattle.display.proofs.doors.spoonwing_display_toggle.Reads as toggle
use Rattle.display.proofs.doors.spoonwing_display_start.Reads as start
use Rattle.display.proofs.doors.spoonwing_display_put.Reads as put
use Rattle.display.proofs.doors.spoonwing_display_put_run.Reads as PutRun
use Rattle.display.proofs.doors.spoonwing_display_write_run.Reads as WriteRun
use Rattle.display.proofs.doors.spoonwing_display_fill.Reads as fill
use Rattle.display.proofs.doors.spoonwing_display_paint.Reads as paint
use Rattle.display.proofs.doors.spoonwing_display_frame.Reads as frame
use Rattle.display.proofs.doors.spoonwing_display_line.Reads as line
use Rattle.display.proofs.doors.spoonwing_display_error_word.Reads as ErrorWord
use Rattle.display.proofs.doors.spoonwing_display_frame_number.Reads as FrameNumber
use Rattle.display.proofs.doors.spoonwing_display_output_width.Reads as OutputWidth
use Rattle.display.proofs.doors.spoonwing_display_output_height.Reads as OutputHeight

-- ---- doors that write the state alone

-- the state
abbrev pub new_door : Call (List ℕ × ℕ) (ℕ × List ℕ)
new_door = call_of new.Post (λ κs i. (i.0.now, i.1.0)) (λ κs a e. (a, e.0.now))

pub new-door-tie : Tied new_door (λ x. (door_answer x.0 (λ d. new_of x.1 true), door_state x.0 (λ d. new_of x.1 true)))
new-door-tie = record { is = λ κs i a e. pair_is }

pub new-door-unique : OneOutcome new_door
new-door-unique = tied-unique new-door-tie

-- the state, the register and the value
abbrev pub write_door : Call (List ℕ × ℕ × ℕ) (ℕ × List ℕ)
write_door = call_of write.Post (λ κs i. (i.0.now, i.1.0, i.1.1.0)) (λ κs a e. (a, e.0.now))

pub write-door-tie : Tied write_door (λ x. (
  door_answer x.0 (λ d. write_of d x.1 x.2),
  door_state x.0
      (λ d. write_of d x.1 x.2),
))
write-door-tie = record { is = λ κs i a e. pair_is }

pub write-door-unique : OneOutcome write_door
write-door-unique = tied-unique write-door-tie

-- the state and the selection
abbrev pub select_door : Call (List ℕ × ℕ) (ℕ × List ℕ)
select_door = call_of select.Post (λ κs i. (i.0.now, i.1.0)) (λ κs a e. (a, e.0.now))

pub select-door-tie : Tied select_door (λ x. (
  door_answer x.0 (λ d. select_of d x.1),
  door_state x.0
      (λ d. select_of d x.1),
))
select-door-tie = record { is = λ κs i a e. pair_is }

pub select-door-unique : OneOutcome select_door
select-door-unique = tied-unique select-door-tie

-- the state and the bits
abbrev pub toggle_door : Call (List ℕ × ℕ) (ℕ × List ℕ)
toggle_door = call_of toggle.Post (λ κs i. (i.0.now, i.1.0)) (λ κs a e. (a, e.0.now))

pub toggle-door-tie : Tied toggle_door (λ x. (
  door_answer x.0 (λ d. toggle_of d x.1),
  door_state x.0
      (λ d. toggle_of d x.1),
))
toggle-door-tie = record { is = λ κs i a e. pair_is }

pub toggle-door-unique : OneOutcome toggle_door
toggle-door-unique = tied-unique toggle-door-tie

-- the state
abbrev pub start_door : Call (List ℕ) (ℕ × List ℕ)
start_door = call_of start.Post (λ κs i. i.0.now) (λ κs a e. (a, e.0.now))

pub start-door-tie : Tied start_door (λ x. (door_answer x start_of, door_state x start_of))
start-door-tie = record { is = λ κs i a e. pair_is }

pub start-door-unique : OneOutcome start_door
start-door-unique = tied-unique start-door-tie

-- ---- doors that write a buffer too

-- the state, the tables and the byte
abbrev pub put_door : Call (List ℕ × List ℕ × ℕ) (ℕ × List ℕ × List ℕ)
put_door =
    call_of put.Post (λ κs i. (i.0.now, i.1.0.now, i.1.1.0))
    (λ κs a e. (a, e.0.now, e.1.0.now))

pub put-door-tie : Tied put_door
    (λ x. (
      door_answer x.0 (λ d. put_of d x.1),
      door_state x.0 (λ d. put_of d x.1),
      door_buffer x.0 (λ d. put_tables d x.1 x.2) x.1,
    ))
put-door-tie = record { is = λ κs i a e. triple-is }

pub put-door-unique : OneOutcome put_door
put-door-unique = tied-unique put-door-tie

-- the state, the tables and the run; the count is told too
abbrev pub put_run_door : Call (List ℕ × List ℕ × List ℕ) (ℕ × List ℕ × List ℕ × ℕ)
put_run_door =
    call_of PutRun.Post (λ κs i. (i.0.now, i.1.0.now, i.1.1.0.now))
    (λ κs a e. (a, e.0.now, e.1.0.now, e.1.1.1.0.now))

pub put-run-door-tie : Tied put_run_door
    (λ x. (
      door_answer x.0 (λ d. told_by (put_run_of d x.1 x.2)),
      door_state x.0 (λ d. told_by (put_run_of d x.1 x.2)),
      door_buffer x.0 (λ d. put_run_tables d x.1 x.2) x.1,
      door_read x.0 (λ d. (put_run_of d x.1 x.2).done),
    ))
put-run-door-tie = record { is = λ κs i a e. quadruple-is }

pub put-run-door-unique : OneOutcome put_run_door
put-run-door-unique = tied-unique put-run-door-tie

-- the state and the run
abbrev pub write_run_door : Call (List ℕ × List ℕ) (ℕ × List ℕ × ℕ)
write_run_door =
    call_of WriteRun.Post (λ κs i. (i.0.now, i.1.0.now)) (λ κs a e. (a, e.0.now, e.1.1.0.now))

pub write-run-door-tie : Tied write_run_door
    (λ x. (
      door_answer x.0 (λ d. told_by (write_run_of d x.1)),
      door_state x.0 (λ d. told_by (write_run_of d x.1)),
      door_read x.0 (λ d. (write_run_of d x.1).done),
    ))
write-run-door-tie = record { is = λ κs i a e. triple-is }

pub write-run-door-unique : OneOutcome write_run_door
write-run-door-unique = tied-unique write-run-door-tie

-- the state and the output
abbrev pub fill_door : Call (List ℕ × List ℕ) (ℕ × List ℕ × List ℕ)
fill_door =
    call_of fill.Post (λ κs i. (i.0.now, i.1.0.now))
    (λ κs a e. (a, e.0.now, e.1.0.now))

pub fill-door-tie : Tied fill_door
    (λ x. (
      door_answer x.0 (λ d. fill_told d x.1),
      door_state x.0 (λ d. fill_told d x.1),
      door_buffer x.0 (λ d. fill_bytes d x.1) x.1,
    ))
fill-door-tie = record { is = λ κs i a e. triple-is }

pub fill-door-unique : OneOutcome fill_door
fill-door-unique = tied-unique fill-door-tie

-- the state, a band's ends, tables, pictures, floats and output
abbrev pub paint_door : Call (List ℕ × ℕ × ℕ × List ℕ × List ℕ × List Float × List ℕ) (ℕ × List ℕ × List ℕ)
paint_door =
    call_of paint.Post (λ κs i. (
      i.0.now,
      i.1.0,
      i.1.1.0,
      i.1.1.1.0.now,
      i.1.1.1.1.0.now,
      i.1.1.1.1.1.0.now,
      i.1.1.1.1.1.1.0.now,
    ))
    (λ κs a e. (a, e.0.now, e.1.1.1.1.1.1.0.now))

pub paint-door-tie : Tied paint_door
    (λ x. (
      door_answer x.0 (λ d. paint_told d x.1 x.2 x.3 x.4 x.5 x.6),
      door_state x.0 (λ d. paint_told d x.1 x.2 x.3 x.4 x.5 x.6),
      door_buffer x.0 (λ d. paint_bytes d x.1 x.2 x.3 x.4 x.5 x.6) x.6,
    ))
paint-door-tie = record { is = λ κs i a e. triple-is }

pub paint-door-unique : OneOutcome paint_door
paint-door-unique = tied-unique paint-door-tie

-- the state, tables, pictures, floats and output
abbrev pub frame_door : Call (List ℕ × List ℕ × List ℕ × List Float × List ℕ) (ℕ × List ℕ × List ℕ)
frame_door =
    call_of frame.Post
    (λ κs i. (i.0.now, i.1.0.now, i.1.1.0.now, i.1.1.1.0.now, i.1.1.1.1.0.now))
    (λ κs a e. (a, e.0.now, e.1.1.1.1.0.now))

pub frame-door-tie : Tied frame_door
    (λ x. (
      door_answer x.0 (λ d. frame_told d x.1 x.2 x.3 x.4),
      door_state x.0 (λ d. frame_told d x.1 x.2 x.3 x.4),
      door_buffer x.0 (λ d. frame_bytes d x.1 x.2 x.3 x.4) x.4,
    ))
frame-door-tie = record { is = λ κs i a e. triple-is }

pub frame-door-unique : OneOutcome frame_door
frame-door-unique = tied-unique frame-door-tie

abbrev pub line_door : Call (List ℕ × ℕ × List ℕ × List ℕ × List Float × List ℕ) (ℕ × List ℕ × List ℕ)
line_door =
    call_of line.Post (λ κs i. (
      i.0.now,
      i.1.0,
      i.1.1.0.now,
      i.1.1.1.0.now,
      i.1.1.1.1.0.now,
      i.1.1.1.1.1.0.now,
    ))
    (λ κs a e. (a, e.0.now, e.1.1.1.1.1.0.now))

pub line-door-tie : Tied line_door
    (λ x. (
      door_answer x.0 (λ d. line_told d x.1 x.2 x.3 x.4 x.5),
      door_state x.0 (λ d. line_told d x.1 x.2 x.3 x.4 x.5),
      door_buffer x.0 (λ d. line_bytes d x.1 x.2 x.3 x.4 x.5) x.5,
    ))
line-door-tie = record { is = λ κs i a e. triple-is }

pub line-door-unique : OneOutcome line_door
line-door-unique = tied-unique line-door-tie

-- ---- reads

abbrev pub error_word_door : Call (List ℕ) ℕ
error_word_door = call_of ErrorWord.Post (λ κs i. i.0.now) (λ κs a e. a)

pub error-word-door-tie : Tied error_word_door (λ s. door_read s (λ d. d.errors))
error-word-door-tie = record { is = λ κs i a e. itself }

pub error-word-door-unique : OneOutcome error_word_door
error-word-door-unique = tied-unique error-word-door-tie

abbrev pub frame_number_door : Call (List ℕ) ℕ
frame_number_door = call_of FrameNumber.Post (λ κs i. i.0.now) (λ κs a e. a)

pub frame-number-door-tie : Tied frame_number_door (λ s. door_read s (λ d. d.frame))
frame-number-door-tie = record { is = λ κs i a e. itself }

pub frame-number-door-unique : OneOutcome frame_number_door
frame-number-door-unique = tied-unique frame-number-door-tie

abbrev pub output_width_door : Call (List ℕ) ℕ
output_width_door = call_of OutputWidth.Post (λ κs i. i.0.now) (λ κs a e. a)

pub output-width-door-tie : Tied output_width_door (λ s. door_read s (λ d. width_of d.active))
output-width-door-tie = record { is = λ κs i a e. itself }

pub output-width-door-unique : OneOutcome output_width_door
output-width-door-unique = tied-unique output-width-door-tie

abbrev pub output_height_door : Call (List ℕ) ℕ
output_height_door = call_of OutputHeight.Post (λ κs i. i.0.now) (λ κs a e. a)

pub output-height-door-tie : Tied output_height_door (λ s. door_read s (λ d. height_of d.active))
output-height-door-tie = record { is = λ κs i a e. itself }

pub output-height-door-unique : OneOutcome output_height_door
output-height-door-unique = tied-unique output-height-door-tie
