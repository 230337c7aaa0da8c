-- Wrong displays: 01 "How firm a promise has to be", "These impostors have to break it", and "Errors we
-- have met in such displays". Each is what a call leaves, by the call's inputs. Assumes nothing.
use Rattle.std.specs.Prelude.{ℕ, ◌+◌, ◌-◌, ◌*◌, ◌/◌, ◌%◌, ◌^◌, ◌≡◌, List, [], ◌∷◌, take, drop, eqb}
use Rattle.std.specs.Int.Bits.{bit_and}
use Rattle.lists.specs.Choice.{pick, choose}
use Rattle.lists.specs.Over.{over}
use Rattle.lists.specs.Runs.{run}
use Rattle.lists.specs.Steps.{through}
use Rattle.lists.specs.Tab.{each}
use Rattle.answers.specs.Answers.{done}
use Rattle.mix.specs.Pixel.{pixel_len, alpha_place, opaque}
use Rattle.mix.specs.Blend.{blend_of}
use Rattle.words.specs.Fields.{shown_of, width_of, layer_of}
use Rattle.words.specs.Order.{band_layers}
use Rattle.frames.specs.Scene.{Scene}
use Rattle.frames.specs.Pixel.{alpha_at, own_at, covers, across_of, down_of, over_at}
use Rattle.frames.specs.Band.{band_by, pixel_at}
use Rattle.frames.specs.Frame.{fill_of}
use Rattle.display.specs.declared.Display.{Display}
use Rattle.display.specs.declared.Told.{Told}
use Rattle.display.specs.State.{told, with_errors, start_of}
use Rattle.display.specs.Doors.{with_layout}
use Rattle.display.specs.Paint.{scene_with}
use Rattle.hexadecimal.specs.Hex.{bytes_in}
use Rattle.texts.specs.Replies.{reply_text}
use Rattle.steps.specs.Form.{picture_place}
use Rattle.steps.specs.Steps.{Midway, midway, run_of, steps_of}
use Rattle.line.specs.Sizes.{most_printed}
use Rattle.line.specs.Line.{started_of, framed_of, reply_of}
use Rattle.lines.specs.Sizes.{out_len}
use Rattle.laws.specs.Small.{first, blank, filled, white, line, page, scene, host_scene, Paints, Frames, Hosts, Prints}
use Rattle.laws.specs.Small.{Scans, Finishes, Feeds}

-- ---- of any call

-- "one that turns everything down (demand 1, "only in that case")": any answer but 0, whatever it leaves
abbrev pub TurnsDown : ℕ → Type 0
TurnsDown answer = answer ≡ done → ⊥

-- the same of a line of a sheet: its first two digits are not 00
abbrev pub PrintsDown : List ℕ → Type 0
PrintsDown out = take 2 out ≡ 48 ∷ 48 ∷ [] → ⊥

-- "one that gives one fixed frame" is any list of bytes, and needs no definition

-- "and one that touches nothing (demand 2)": 0, and all as it was
abbrev pub untouched : Display → Told
untouched d = told d done

-- ---- of toggle and start

-- "Clearing the error word with "and not"."
abbrev pub and_not : Display → ℕ → Told
and_not d bits = told (with_errors d (bit_and d.errors (2 ^ 32 - 1 - bits))) done

-- "Stopping the frame number on a refused start."
abbrev pub stopped_start : Display → Told
stopped_start d = choose (eqb (start_of d).answer done) (start_of d) (told d (start_of d).answer)

-- 02 K5: the words that become active are painted in the order of those before them
abbrev pub old_order : Display → Told
old_order d = told (with_layout (start_of d).state d.layout) (start_of d).answer

-- ---- of painting

-- what becomes of channel c of the pixel (x, y) by the band a..b: the document's is `pixel_at`
abbrev pub Rule : Type 0
Rule = Scene → ℕ → ℕ → ℕ → ℕ → ℕ → ℕ → ℕ

-- a byte of the output by a rule, as `band_byte` has it
abbrev pub byte_by : Rule → Scene → ℕ → ℕ → ℕ → ℕ → ℕ
byte_by rule s a b i p =
    pick (eqb (i % pixel_len) alpha_place) p
    (rule s (i / pixel_len / width_of s.words) (i / pixel_len % width_of s.words) (i % pixel_len) a b p)

-- a band
abbrev pub painted_by : Rule → Scene → ℕ → ℕ → List ℕ → List ℕ
painted_by rule s a b out = choose (shown_of s.words) (each (byte_by rule s a b) out) out

-- a frame
abbrev pub framed_by : Rule → Scene → List ℕ
framed_by rule s = painted_by rule s 0 8 (fill_of s.words)

-- the reply of a line after its steps
abbrev pub replied_by : Rule → Midway → List ℕ → List ℕ
replied_by rule m pictures =
    reply_of (framed_of (started_of m.told) m.tables pictures)
    (framed_by rule (scene_with (started_of m.told).state m.tables pictures []))

-- the text that a well formed line prints
abbrev pub printed_by : Rule → Display → List ℕ → List ℕ → List ℕ
printed_by rule d tables text =
    let b = bytes_in text in
    reply_text (replied_by rule (run_of (midway (told d done) tables) (steps_of b)) (drop (picture_place b + 2) b))

-- "one that paints the lowest layer and for the others only answers 0 (demand 2 ..)"
abbrev pub lowest : Rule
lowest s y x c a b under = through (over_at s y x c) (take 1 (band_layers s.words a b)) under

-- a layer over a pixel as `over_at` has it, with another blend
abbrev pub over_by : (ℕ → ℕ → ℕ → ℕ) → Scene → ℕ → ℕ → ℕ → ℕ → ℕ → ℕ
over_by blend s y x c n under =
    pick (covers (layer_of s.words n) y x)
    (blend (alpha_at s n (down_of (layer_of s.words n) y) (across_of (layer_of s.words n) x))
    (own_at s n (down_of (layer_of s.words n) y) (across_of (layer_of s.words n) x) c)
    under)
    under

-- "Dividing by 256: white at alpha 255 then comes out as 254."
abbrev pub blend256 : ℕ → ℕ → ℕ → ℕ
blend256 a over under = (a * over + (255 - a) * under + 127) / 256

-- with that blend
abbrev pub by256 : Rule
by256 s y x c a b under = band_by s.words (over_by blend256 s y x c) a b under

-- "Taking layer number for depth.": the band's ends are layer numbers, and a greater number lies on top
abbrev pub numbered : Rule
numbered s y x c a b under = run a (b - a) (λ n p. pick (layer_of s.words n).on (over_at s y x c n p) p) under

-- what a layer lets through of what is under it
abbrev pub dimmed : ℕ → ℕ → ℕ → ℕ
dimmed a over under = blend_of a 0 under

-- "Blending all layers' colours first and the background last.": the layers over nothing, and then, by
-- whatever rule `last`, what they gave, how much of 255 they let through, and what was under them
abbrev pub ground_last : (ℕ → ℕ → ℕ → ℕ) → Rule
ground_last last s y x c a b under =
    last (pixel_at s y x c a b 0) (band_by s.words (over_by dimmed s y x c) a b opaque) under

-- ---- the outputs by a rule, of the calls on the small inputs, by the pictures

-- of paint
abbrev pub paint_by : Rule → List ℕ → List ℕ
paint_by rule pictures = painted_by rule (scene pictures) 0 8 filled

-- of frame
abbrev pub frame_by : Rule → List ℕ → List ℕ
frame_by rule pictures = framed_by rule (scene pictures)

-- of the host entry
abbrev pub host_by : Rule → List ℕ → List ℕ
host_by rule pictures = framed_by rule (host_scene pictures)

-- of a line, of the end of a sheet and of a block, in n bytes
abbrev pub line_by : Rule → ℕ → List ℕ → List ℕ
line_by rule n pictures = over (printed_by rule first blank (line pictures)) (page n)

-- a rule that breaks the contract of each call that paints, with the white picture
pub record Breaks (rule : Rule) : Type 0 where
  pub paint : Paints white (paint_by rule white) → ⊥
  pub frame : Frames white (frame_by rule white) → ⊥
  pub scan : Scans white (frame_by rule white) → ⊥
  pub host : Hosts white (host_by rule white) → ⊥
  pub line : Prints white (line_by rule most_printed white) → ⊥
  pub finish : Finishes white (line_by rule out_len white) → ⊥
  pub feed : Feeds white (line_by rule out_len white) → ⊥
