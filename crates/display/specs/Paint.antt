-- What fill, paint, frame and line answer and leave, in the state and in the output: painting of the active
-- words at the frame number, 01 "Painting", 02 K3, K7. Assumes nothing.
use Rattle.std.specs.Prelude.{ℕ, List, length, Float}
use Rattle.frames.specs.Scene.{Scene, scene_of}
use Rattle.frames.specs.Frame.{refusal_of, fill_refusal, fill_after, paint_after, errors_after, frame_after}
use Rattle.frames.specs.Line.{line_refusal_of, line_after, line_errors_after}
use Rattle.display.specs.declared.Display.{Display}
use Rattle.display.specs.declared.Told.{Told}
use Rattle.display.specs.State.{with_errors, told}

-- what the display paints from
abbrev pub scene_with : Display → List ℕ → List ℕ → List Float → Scene
scene_with d tables pictures floats = scene_of d.profile d.active d.frame tables pictures floats

-- ---- fill: "Fill writes the background to every pixel."

-- the answer; nothing of the state changes
unfoldable pub fill_told : Display → List ℕ → Told
fill_told d out = told d (fill_refusal d.active (length out))

-- the output that it leaves
unfoldable pub fill_bytes : Display → List ℕ → List ℕ
fill_bytes d out = fill_after d.active out

-- ---- a band: "blends the enabled layers of those depths, in rising depth, over what the buffer holds"

-- the answer, and the error word that painting leaves; nothing else of the state changes
unfoldable pub paint_told : Display → ℕ → ℕ → List ℕ → List ℕ → List Float → List ℕ → Told
paint_told d a b tables pictures floats out =
    told (with_errors d (errors_after (scene_with d tables pictures floats) a b out d.errors))
    (refusal_of (scene_with d tables pictures floats) a b out)

-- the output that it leaves
unfoldable pub paint_bytes : Display → ℕ → ℕ → List ℕ → List ℕ → List Float → List ℕ → List ℕ
paint_bytes d a b tables pictures floats out = paint_after (scene_with d tables pictures floats) a b out

-- ---- "A whole frame is a fill and band 0..8, refused as paint."

-- the answer and the error word are those of the band
unfoldable pub frame_told : Display → List ℕ → List ℕ → List Float → List ℕ → Told
frame_told d tables pictures floats out = paint_told d 0 8 tables pictures floats out

-- the output that it leaves, whatever it held
unfoldable pub frame_bytes : Display → List ℕ → List ℕ → List Float → List ℕ → List ℕ
frame_bytes d tables pictures floats out = frame_after (scene_with d tables pictures floats) out

-- ---- 02 K3: "blends line by line into one lent output line"; "its bytes and error bits are those of the whole frame"

-- the answer, and the error word that painting leaves; nothing else of the state changes
unfoldable pub line_told : Display → ℕ → List ℕ → List ℕ → List Float → List ℕ → Told
line_told d y tables pictures floats out =
    told (with_errors d (line_errors_after (scene_with d tables pictures floats) y out d.errors))
    (line_refusal_of (scene_with d tables pictures floats) y out)

-- the line that it leaves, whatever it held
unfoldable pub line_bytes : Display → ℕ → List ℕ → List ℕ → List Float → List ℕ → List ℕ
line_bytes d y tables pictures floats out = line_after (scene_with d tables pictures floats) y out
