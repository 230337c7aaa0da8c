-- Small inputs by name, on which wrong displays are tried. The states are made by calls from the fresh
-- one. Assumes nothing.
use Rattle.std.specs.Prelude.{ℕ, ◌≡◌, false, List, [], ◌∷◌, ◌++◌, length}
use Rattle.lists.specs.Call.{Meets}
use Rattle.lists.specs.Over.{over}
use Rattle.answers.specs.Answers.{done}
use Rattle.profiles.specs.Profile.{one_bit}
use Rattle.tables.specs.Geometry.{tables_len}
use Rattle.frames.specs.Scene.{Scene}
use Rattle.display.specs.declared.Display.{Display}
use Rattle.display.specs.declared.Told.{Told}
use Rattle.display.specs.State.{fresh, write_of, select_of, start_of}
use Rattle.display.specs.Paint.{scene_with, paint_bytes, frame_bytes, line_bytes}
use Rattle.display.proofs.Unique.{paint_call, frame_call, line_call}
use Rattle.host.specs.Host.{scene_in, host_output}
use Rattle.host.proofs.Unique.{host_call}
use Rattle.hexadecimal.specs.Hex.{digits_of}
use Rattle.texts.specs.Lines.{line_feed}
use Rattle.texts.specs.Replies.{two_bytes, four_bytes, reply_text}
use Rattle.line.specs.declared.Printed.{Printed}
use Rattle.line.specs.Sizes.{most_printed}
use Rattle.line.specs.Line.{zeros, head_of, line_of}
use Rattle.lines.specs.declared.blocks.Fed.{Fed}
use Rattle.lines.specs.declared.blocks.Going.{Going}
use Rattle.lines.specs.Sizes.{most_kept, out_len}
use Rattle.lines.specs.Blocks.{begun}
use Rattle.lines.proofs.Unique.{run_line_call, feed_call, finish_call}
use Rattle.laws.specs.Figures.{bytes_of}

-- ---- words

-- a register and its value
pub record Write : Type 0 where
  pub register : ℕ
  pub value : ℕ

-- as one
abbrev word : ℕ → ℕ → Write
word register value = record { register = register; value = value }

-- a screen of one pixel with a background, display and update on; layers 0 and 1 are frame layers that
-- cover the pixel, layer 0 at depth 1 and layer 1 at depth 0
abbrev pub one_pixel : ℕ → List Write
one_pixel below =
    word 0 5
    ∷ word 1 0x0001_0001
    ∷ word 2 below
    ∷ word 4 0x0101
    ∷ word 7 0x0001_0001
    ∷ word 10 0x0001
    ∷ word 13 0x0001_0001
    ∷ []

-- a grey background
abbrev pub grey : ℕ
grey = 0x0064_6464

-- and a black one
abbrev pub night : ℕ
night = 0

-- ---- states

-- a display of one bit a glyph pixel, as a sheet begins with it
abbrev pub first : Display
first = fresh (one_bit false)

-- a state with words written
abbrev pub written_to : Display → List Write → Display
written_to d [] = d
written_to d (w ∷ rest) = written_to (write_of d w.register w.value).state rest

-- the words of that one pixel written
abbrev pub written : ℕ → Display
written below = written_to first (one_pixel below)

-- and let in by a start
abbrev pub started : ℕ → Display
started below = (start_of (written below)).state

-- the update bit alone: a start is refused with 8, since the screen has no size
abbrev pub sizeless : Display
sizeless = (write_of first 0 4).state

-- bank 1 of controller 0's instructions selected: the active words name bank 0
abbrev pub selecting : Display
selecting = (select_of first 1).state

-- a run of one write: 1 to register 0
abbrev pub one_write : List ℕ
one_write = 0 ∷ 1 ∷ 0 ∷ 0 ∷ 0 ∷ []

-- ---- buffers

-- tables of zeros, as the sheet program makes them
abbrev pub blank : List ℕ
blank = zeros (tables_len 1)

-- the output of that one pixel, filled with grey
abbrev pub filled : List ℕ
filled = 100 ∷ 100 ∷ 100 ∷ 255 ∷ []

-- the pictures of layers 0 and 1: white over a dark colour
abbrev pub white : List ℕ
white = 255 ∷ 255 ∷ 255 ∷ 255 ∷ 10 ∷ 20 ∷ 30 ∷ 255 ∷ []

-- both clear
abbrev pub clear : List ℕ
clear = 0 ∷ 0 ∷ 0 ∷ 0 ∷ 0 ∷ 0 ∷ 0 ∷ 0 ∷ []

-- a layer 0 of alpha 1 over a clear one
abbrev faint : ℕ → List ℕ
faint colour = colour ∷ colour ∷ colour ∷ 1 ∷ 0 ∷ 0 ∷ 0 ∷ 0 ∷ []

-- two that differ by that faint colour: with the grey it is not seen
abbrev pub dim : List ℕ
dim = faint 128

-- and it is
abbrev pub bright : List ℕ
bright = faint 228

-- ---- the same for the host and for a sheet

-- the register image of words
abbrev pub image_of : List ℕ → List ℕ
image_of [] = []
image_of (w ∷ rest) = bytes_of w ++ image_of rest

-- that of the one pixel
abbrev pub image : List ℕ
image = image_of (started grey).active

-- the bytes of a line's writes
abbrev pub writes_in : List Write → List ℕ
writes_in [] = []
writes_in (w ∷ rest) = w.register ∷ four_bytes w.value ++ writes_in rest

-- a line that writes the words of the one pixel and has pictures
abbrev pub line : List ℕ → List ℕ
line pictures =
    digits_of (0 ∷ length (one_pixel grey) ∷ writes_in (one_pixel grey) ++ two_bytes (length pictures) ++ pictures)

-- that line and its line feed as one block
abbrev pub block : List ℕ → List ℕ
block pictures = line pictures ++ line_feed ∷ []

-- the buffer that is lent to gather a line in, with the text that has come
abbrev pub slate : List ℕ → List ℕ
slate text = over text (zeros most_kept)

-- a sheet of which this text has come
abbrev pub gathered : List ℕ → Going
gathered text = record { state = first; held = length text }

-- an output of n bytes that is lent for what is printed
abbrev pub page : ℕ → List ℕ
page n = zeros n

-- ---- what is promised of them, by the pictures

-- what paint and frame paint from
abbrev pub scene : List ℕ → Scene
scene pictures = scene_with (started grey) blank pictures []

-- the output of paint
abbrev pub painted : List ℕ → List ℕ
painted pictures = paint_bytes (started grey) 0 8 blank pictures [] filled

-- of frame
abbrev pub framed : List ℕ → List ℕ
framed pictures = frame_bytes (started grey) blank pictures [] filled

-- of its one line
abbrev pub lined : List ℕ → List ℕ
lined pictures = line_bytes (started grey) 0 blank pictures [] filled

-- what the host entry paints from
abbrev pub host_scene : List ℕ → Scene
host_scene pictures = scene_in image 1 blank pictures

-- its output
abbrev pub hosted : List ℕ → List ℕ
hosted pictures = host_output image 1 blank pictures filled

-- that of the line, in n bytes, and so of the end of a sheet and of a block
abbrev pub printed : ℕ → List ℕ → List ℕ
printed n pictures = over (line_of first blank (line pictures)).printed (page n)

-- one frame of all that paint
pub record Promised (pictures bytes : List ℕ) : Type 0 where
  pub paint : painted pictures ≡ bytes
  pub frame : framed pictures ≡ bytes
  pub scan : lined pictures ≡ bytes
  pub host : hosted pictures ≡ bytes

-- the text of a line whose answer is 0, with no error, one by one pixel and a frame
abbrev pub reply_with : List ℕ → List ℕ
reply_with frame = reply_text (done ∷ head_of (started grey) ++ frame)

-- ---- an output that meets a call's contract, by the pictures, whatever else the call leaves

-- of paint
abbrev pub Paints : List ℕ → List ℕ → Type 0
Paints pictures out = (t : Told) × Meets paint_call (started grey, 0, 8, blank, pictures, [], filled) (t, out)

-- of frame
abbrev pub Frames : List ℕ → List ℕ → Type 0
Frames pictures out = (t : Told) × Meets frame_call (started grey, blank, pictures, [], filled) (t, out)

-- of its one line
abbrev pub Scans : List ℕ → List ℕ → Type 0
Scans pictures out = (t : Told) × Meets line_call (started grey, 0, blank, pictures, [], filled) (t, out)

-- of the host entry
abbrev pub Hosts : List ℕ → List ℕ → Type 0
Hosts pictures out = (answer : ℕ) × Meets host_call (image, 1, blank, pictures, filled) (answer, out)

-- of a line
abbrev pub Prints : List ℕ → List ℕ → Type 0
Prints pictures out =
    (r : Printed) × (tables : List ℕ)
    × Meets run_line_call (first, blank, line pictures, page most_printed) (r, tables, out)

-- of the end of a sheet
abbrev pub Finishes : List ℕ → List ℕ → Type 0
Finishes pictures out =
    (r : Printed) × (tables : List ℕ)
    × Meets finish_call (gathered (line pictures), blank, slate (line pictures), page out_len) (r, tables, out)

-- of a block
abbrev pub Feeds : List ℕ → List ℕ → Type 0
Feeds pictures out =
    (r : Fed) × (tables : List ℕ) × (text : List ℕ)
    × Meets feed_call (begun, blank, slate [], block pictures, page out_len) (r, tables, text, out)
