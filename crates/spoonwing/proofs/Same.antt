-- Each export promises what the call of its name promises, so that every law of that call holds of it: its tie to the
-- definitions, the law of one outcome, and what it rules out. `Post` is a function's own `ensures`, as the check reads it: of
-- the lifetimes κs, the arguments i, the answer a and the arguments at exit e. Assumes nothing.
use Rattle.spoonwing.proofs.spoonwing_frame.Reads as SpoonwingFrame
use Rattle.host.proofs.spoonwing_frame.Reads as CallSpoonwingFrame
use Rattle.spoonwing.proofs.spoonwing_mend.Reads as SpoonwingMend
use Rattle.repair.proofs.spoonwing_mend.Reads as CallSpoonwingMend
use Rattle.spoonwing.proofs.spoonwing_display_new.Reads as SpoonwingDisplayNew
use Rattle.display.proofs.doors.spoonwing_display_new.Reads as CallSpoonwingDisplayNew
use Rattle.spoonwing.proofs.spoonwing_display_write.Reads as SpoonwingDisplayWrite
use Rattle.display.proofs.doors.spoonwing_display_write.Reads as CallSpoonwingDisplayWrite
use Rattle.spoonwing.proofs.spoonwing_display_select.Reads as SpoonwingDisplaySelect
use Rattle.display.proofs.doors.spoonwing_display_select.Reads as CallSpoonwingDisplaySelect
use Rattle.spoonwing.proofs.spoonwing_display_toggle.Reads as SpoonwingDisplayToggle
use Rattle.display.proofs.doors.spoonwing_display_toggle.Reads as CallSpoonwingDisplayToggle
use Rattle.spoonwing.proofs.spoonwing_display_start.Reads as SpoonwingDisplayStart
use Rattle.display.proofs.doors.spoonwing_display_start.Reads as CallSpoonwingDisplayStart
use Rattle.spoonwing.proofs.spoonwing_display_put.Reads as SpoonwingDisplayPut
use Rattle.display.proofs.doors.spoonwing_display_put.Reads as CallSpoonwingDisplayPut
use Rattle.spoonwing.proofs.spoonwing_display_put_run.Reads as SpoonwingDisplayPutRun
use Rattle.display.proofs.doors.spoonwing_display_put_run.Reads as CallSpoonwingDisplayPutRun
use Rattle.spoonwing.proofs.spoonwing_display_write_run.Reads as SpoonwingDisplayWriteRun
use Rattle.display.proofs.doors.spoonwing_display_write_run.Reads as CallSpoonwingDisplayWriteRun
use Rattle.spoonwing.proofs.spoonwing_display_fill.Reads as SpoonwingDisplayFill
use Rattle.display.proofs.doors.spoonwing_display_fill.Reads as CallSpoonwingDisplayFill
use Rattle.spoonwing.proofs.spoonwing_display_paint.Reads as SpoonwingDisplayPaint
use Rattle.display.proofs.doors.spoonwing_display_paint.Reads as CallSpoonwingDisplayPaint
use Rattle.spoonwing.proofs.spoonwing_display_frame.Reads as SpoonwingDisplayFrame
use Rattle.display.proofs.doors.spoonwing_display_frame.Reads as CallSpoonwingDisplayFrame
use Rattle.spoonwing.proofs.spoonwing_display_line.Reads as SpoonwingDisplayLine
use Rattle.display.proofs.doors.spoonwing_display_line.Reads as CallSpoonwingDisplayLine
use Rattle.spoonwing.proofs.spoonwing_display_error_word.Reads as SpoonwingDisplayErrorWord
use Rattle.display.proofs.doors.spoonwing_display_error_word.Reads as CallSpoonwingDisplayErrorWord
use Rattle.spoonwing.proofs.spoonwing_display_frame_number.Reads as SpoonwingDisplayFrameNumber
use Rattle.display.proofs.doors.spoonwing_display_frame_number.Reads as CallSpoonwingDisplayFrameNumber
use Rattle.spoonwing.proofs.spoonwing_display_output_width.Reads as SpoonwingDisplayOutputWidth
use Rattle.display.proofs.doors.spoonwing_display_output_width.Reads as CallSpoonwingDisplayOutputWidth
use Rattle.spoonwing.proofs.spoonwing_display_output_height.Reads as SpoonwingDisplayOutputHeight
use Rattle.display.proofs.doors.spoonwing_display_output_height.Reads as CallSpoonwingDisplayOutputHeight

pub frame-same : (κs i a e : _) → SpoonwingFrame.Post κs i a e → CallSpoonwingFrame.Post κs i a e
frame-same κs i a e p = p

pub mend-same : (κs i a e : _) → SpoonwingMend.Post κs i a e → CallSpoonwingMend.Post κs i a e
mend-same κs i a e p = p

pub display_new-same : (κs i a e : _) → SpoonwingDisplayNew.Post κs i a e → CallSpoonwingDisplayNew.Post κs i a e
display_new-same κs i a e p = p

pub display_write-same : (κs i a e : _) → SpoonwingDisplayWrite.Post κs i a e → CallSpoonwingDisplayWrite.Post κs i a e
display_write-same κs i a e p = p

pub display_select-same : (κs i a e : _) → SpoonwingDisplaySelect.Post κs i a e → CallSpoonwingDisplaySelect.Post κs i a e
display_select-same κs i a e p = p

pub display_toggle-same : (κs i a e : _) → SpoonwingDisplayToggle.Post κs i a e → CallSpoonwingDisplayToggle.Post κs i a e
display_toggle-same κs i a e p = p

pub display_start-same : (κs i a e : _) → SpoonwingDisplayStart.Post κs i a e → CallSpoonwingDisplayStart.Post κs i a e
display_start-same κs i a e p = p

pub display_put-same : (κs i a e : _) → SpoonwingDisplayPut.Post κs i a e → CallSpoonwingDisplayPut.Post κs i a e
display_put-same κs i a e p = p

pub display_put_run-same : (κs i a e : _) → SpoonwingDisplayPutRun.Post κs i a e → CallSpoonwingDisplayPutRun.Post κs i a e
display_put_run-same κs i a e p = p

pub display_write_run-same : (κs i a e : _) → SpoonwingDisplayWriteRun.Post κs i a e → CallSpoonwingDisplayWriteRun.Post κs i a e
display_write_run-same κs i a e p = p

pub display_fill-same : (κs i a e : _) → SpoonwingDisplayFill.Post κs i a e → CallSpoonwingDisplayFill.Post κs i a e
display_fill-same κs i a e p = p

pub display_paint-same : (κs i a e : _) → SpoonwingDisplayPaint.Post κs i a e → CallSpoonwingDisplayPaint.Post κs i a e
display_paint-same κs i a e p = p

pub display_frame-same : (κs i a e : _) → SpoonwingDisplayFrame.Post κs i a e → CallSpoonwingDisplayFrame.Post κs i a e
display_frame-same κs i a e p = p

pub display_line-same : (κs i a e : _) → SpoonwingDisplayLine.Post κs i a e → CallSpoonwingDisplayLine.Post κs i a e
display_line-same κs i a e p = p

pub display_error_word-same : (κs i a e : _) → SpoonwingDisplayErrorWord.Post κs i a e → CallSpoonwingDisplayErrorWord.Post κs i a e
display_error_word-same κs i a e p = p

pub display_frame_number-same : (κs i a e : _) → SpoonwingDisplayFrameNumber.Post κs i a e → CallSpoonwingDisplayFrameNumber.Post κs i a e
display_frame_number-same κs i a e p = p

pub display_output_width-same : (κs i a e : _) → SpoonwingDisplayOutputWidth.Post κs i a e → CallSpoonwingDisplayOutputWidth.Post κs i a e
display_output_width-same κs i a e p = p

pub display_output_height-same : (κs i a e : _) → SpoonwingDisplayOutputHeight.Post κs i a e → CallSpoonwingDisplayOutputHeight.Post κs i a e
display_output_height-same κs i a e p = p
