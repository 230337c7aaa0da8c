-- Each call's contract is the equation with its definitions, and so no two outcomes meet it: a law
-- CALL-tie and a law CALL-unique of each. `Post` is the call's own `ensures`, as the check reads it in
-- `src/lib.rt`, of the lifetimes κs, the arguments i, the answer a and the arguments at exit e. An outcome
-- is the answer, with the state, and every byte of the buffer that the call writes. Assumes nothing.
use Rattle.std.proofs.Common.{ℕ, Bool, List}
use lib.Ieee.{Float}
use Rattle.lists.specs.Call.{Call, call_of, Tied, OneOutcome}
use Rattle.lists.proofs.Call.{itself, pair_is, tied-unique}
use Rattle.words.specs.Fields.{width_of, height_of}
use Rattle.display.specs.declared.Display.{Display}
use Rattle.display.specs.declared.Told.{Told}
use Rattle.display.specs.declared.Ran.{Ran}
use Rattle.display.specs.State.{new_of, write_of, select_of, toggle_of, start_of}
use Rattle.display.specs.Put.{put_of, put_tables}
use Rattle.display.specs.Runs.{put_run_of, put_run_tables, write_run_of}
use Rattle.display.specs.Paint.{fill_told, fill_bytes, paint_told, paint_bytes, frame_told, frame_bytes}
use Rattle.display.specs.Paint.{line_told, line_bytes}
use Rattle.display.proofs.Display.new.Reads as new
use Rattle.display.proofs.Display.write.Reads as write
use Rattle.display.proofs.Display.select.Reads as select
use Rattle.display.proofs.Display.toggle.Reads as toggle
use Rattle.display.proofs.Display.start.Reads as start
use Rattle.display.proofs.Display.put.Reads as put
use Rattle.display.proofs.Display.put_run.Reads as PutRun
use Rattle.display.proofs.Display.write_run.Reads as WriteRun
use Rattle.display.proofs.Display.fill.Reads as fill
use Rattle.display.proofs.Display.paint.Reads as paint
use Rattle.display.proofs.Display.frame.Reads as frame
use Rattle.display.proofs.Display.line.Reads as line
use Rattle.display.proofs.Display.error_word.Reads as ErrorWord
use Rattle.display.proofs.Display.frame_number.Reads as FrameNumber
use Rattle.display.proofs.Display.output_width.Reads as OutputWidth
use Rattle.display.proofs.Display.output_height.Reads as OutputHeight

-- ---- calls that write no buffer

-- the number of bits, and whether float layers are let in
abbrev pub new_call : Call (ℕ × Bool) Told
new_call = call_of new.Post (λ κs i. (i.0, i.1.0)) (λ κs a e. a)

pub new-tie : Tied new_call (λ x. new_of x.0 x.1)
new-tie = record { is = λ κs i a e. itself }

pub new-unique : OneOutcome new_call
new-unique = tied-unique new-tie

-- the state, the register and the value
abbrev pub write_call : Call (Display × ℕ × ℕ) Told
write_call = call_of write.Post (λ κs i. (i.0, i.1.0, i.1.1.0)) (λ κs a e. a)

pub write-tie : Tied write_call (λ x. write_of x.0 x.1 x.2)
write-tie = record { is = λ κs i a e. itself }

pub write-unique : OneOutcome write_call
write-unique = tied-unique write-tie

-- the state and the selection
abbrev pub select_call : Call (Display × ℕ) Told
select_call = call_of select.Post (λ κs i. (i.0, i.1.0)) (λ κs a e. a)

pub select-tie : Tied select_call (λ x. select_of x.0 x.1)
select-tie = record { is = λ κs i a e. itself }

pub select-unique : OneOutcome select_call
select-unique = tied-unique select-tie

-- the state and the bits
abbrev pub toggle_call : Call (Display × ℕ) Told
toggle_call = call_of toggle.Post (λ κs i. (i.0, i.1.0)) (λ κs a e. a)

pub toggle-tie : Tied toggle_call (λ x. toggle_of x.0 x.1)
toggle-tie = record { is = λ κs i a e. itself }

pub toggle-unique : OneOutcome toggle_call
toggle-unique = tied-unique toggle-tie

abbrev pub start_call : Call Display Told
start_call = call_of start.Post (λ κs i. i.0) (λ κs a e. a)

pub start-tie : Tied start_call start_of
start-tie = record { is = λ κs i a e. itself }

pub start-unique : OneOutcome start_call
start-unique = tied-unique start-tie

-- ---- put: the state, the tables and the byte; the tables are left

abbrev pub put_call : Call (Display × List ℕ × ℕ) (Told × List ℕ)
put_call = call_of put.Post (λ κs i. (i.0, i.1.0.now, i.1.1.0)) (λ κs a e. (a, e.1.0.now))

pub put-tie : Tied put_call (λ x. (put_of x.0 x.1, put_tables x.0 x.1 x.2))
put-tie = record { is = λ κs i a e. pair_is }

pub put-unique : OneOutcome put_call
put-unique = tied-unique put-tie

-- ---- runs: the state, the tables and the bytes; the count is a part of the answer

abbrev pub put_run_call : Call (Display × List ℕ × List ℕ) (Ran × List ℕ)
put_run_call = call_of PutRun.Post (λ κs i. (i.0, i.1.0.now, i.1.1.0.now)) (λ κs a e. (a, e.1.0.now))

pub put-run-tie : Tied put_run_call (λ x. (put_run_of x.0 x.1 x.2, put_run_tables x.0 x.1 x.2))
put-run-tie = record { is = λ κs i a e. pair_is }

pub put-run-unique : OneOutcome put_run_call
put-run-unique = tied-unique put-run-tie

abbrev pub write_run_call : Call (Display × List ℕ) Ran
write_run_call = call_of WriteRun.Post (λ κs i. (i.0, i.1.0.now)) (λ κs a e. a)

pub write-run-tie : Tied write_run_call (λ x. write_run_of x.0 x.1)
write-run-tie = record { is = λ κs i a e. itself }

pub write-run-unique : OneOutcome write_run_call
write-run-unique = tied-unique write-run-tie

-- ---- painting: the state, a band's ends, tables, pictures, floats, output; the output is left

abbrev pub fill_call : Call (Display × List ℕ) (Told × List ℕ)
fill_call = call_of fill.Post (λ κs i. (i.0, i.1.0.now)) (λ κs a e. (a, e.1.0.now))

pub fill-tie : Tied fill_call (λ x. (fill_told x.0 x.1, fill_bytes x.0 x.1))
fill-tie = record { is = λ κs i a e. pair_is }

pub fill-unique : OneOutcome fill_call
fill-unique = tied-unique fill-tie

abbrev pub paint_call : Call (Display × ℕ × ℕ × List ℕ × List ℕ × List Float × List ℕ) (Told × List ℕ)
paint_call =
    call_of paint.Post
    (λ κs i. (
      i.0,
      i.1.0,
      i.1.1.0,
      i.1.1.1.0.now,
      i.1.1.1.1.0.now,
      i.1.1.1.1.1.0.now,
      i.1.1.1.1.1.1.0.now,
    ))
    (λ κs a e. (a, e.1.1.1.1.1.1.0.now))

pub paint-tie : Tied paint_call
    (λ x. (
      paint_told x.0 x.1 x.2 x.3 x.4 x.5 x.6,
      paint_bytes x.0 x.1 x.2 x.3 x.4 x.5 x.6,
    ))
paint-tie = record { is = λ κs i a e. pair_is }

pub paint-unique : OneOutcome paint_call
paint-unique = tied-unique paint-tie

abbrev pub frame_call : Call (Display × List ℕ × List ℕ × List Float × List ℕ) (Told × List ℕ)
frame_call =
    call_of frame.Post (λ κs i. (i.0, i.1.0.now, i.1.1.0.now, i.1.1.1.0.now, i.1.1.1.1.0.now))
    (λ κs a e. (a, e.1.1.1.1.0.now))

pub frame-tie : Tied frame_call
    (λ x. (frame_told x.0 x.1 x.2 x.3 x.4, frame_bytes x.0 x.1 x.2 x.3 x.4))
frame-tie = record { is = λ κs i a e. pair_is }

pub frame-unique : OneOutcome frame_call
frame-unique = tied-unique frame-tie

-- the state, the line's number, tables, pictures, floats, output
abbrev pub line_call : Call (Display × ℕ × List ℕ × List ℕ × List Float × List ℕ) (Told × List ℕ)
line_call =
    call_of line.Post
    (λ κs i. (i.0, i.1.0, i.1.1.0.now, i.1.1.1.0.now, i.1.1.1.1.0.now, i.1.1.1.1.1.0.now))
    (λ κs a e. (a, e.1.1.1.1.1.0.now))

pub line-tie : Tied line_call
    (λ x. (line_told x.0 x.1 x.2 x.3 x.4 x.5, line_bytes x.0 x.1 x.2 x.3 x.4 x.5))
line-tie = record { is = λ κs i a e. pair_is }

pub line-unique : OneOutcome line_call
line-unique = tied-unique line-tie

-- ---- the reads answer a number of the state

abbrev pub error_word_call : Call Display ℕ
error_word_call = call_of ErrorWord.Post (λ κs i. i.0) (λ κs a e. a)

pub error-word-tie : Tied error_word_call (λ d. d.errors)
error-word-tie = record { is = λ κs i a e. itself }

pub error-word-unique : OneOutcome error_word_call
error-word-unique = tied-unique error-word-tie

abbrev pub frame_number_call : Call Display ℕ
frame_number_call = call_of FrameNumber.Post (λ κs i. i.0) (λ κs a e. a)

pub frame-number-tie : Tied frame_number_call (λ d. d.frame)
frame-number-tie = record { is = λ κs i a e. itself }

pub frame-number-unique : OneOutcome frame_number_call
frame-number-unique = tied-unique frame-number-tie

abbrev pub output_width_call : Call Display ℕ
output_width_call = call_of OutputWidth.Post (λ κs i. i.0) (λ κs a e. a)

pub output-width-tie : Tied output_width_call (λ d. width_of d.active)
output-width-tie = record { is = λ κs i a e. itself }

pub output-width-unique : OneOutcome output_width_call
output-width-unique = tied-unique output-width-tie

abbrev pub output_height_call : Call Display ℕ
output_height_call = call_of OutputHeight.Post (λ κs i. i.0) (λ κs a e. a)

pub output-height-tie : Tied output_height_call (λ d. height_of d.active)
output-height-tie = record { is = λ κs i a e. itself }

pub output-height-unique : OneOutcome output_height_call
output-height-unique = tied-unique output-height-tie
