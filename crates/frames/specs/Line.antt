-- What a line of a whole frame answers and leaves: 02 K3. Assumes nothing.
use Rattle.std.specs.Prelude.{ℕ, ◌*◌, List, length, take, drop, eqb, ltb}
use Rattle.lists.specs.Choice.{pick, choose, or_else}
use Rattle.answers.specs.Answers.{done, output_length, no_line}
use Rattle.mix.specs.Pixel.{pixel_len}
use Rattle.profiles.specs.Profile.{bits_of}
use Rattle.words.specs.Fields.{width_of, height_of}
use Rattle.frames.specs.Scene.{Scene}
use Rattle.frames.specs.Band.{errors_of}
use Rattle.frames.specs.Frame.{size_refusal, lent_refusal, frame_of}

-- ---- refusals: of the bits a glyph pixel has, the words, the line's number, and the lengths of output, tables, pictures and
-- floats

-- "15 for a line number at or past the height"
abbrev pub number_refusal : List ℕ → ℕ → ℕ
number_refusal w y = pick (ltb y (height_of w)) done no_line

-- "13 against 4·width"
abbrev pub line_len : List ℕ → ℕ
line_len w = pixel_len * width_of w

-- of an output so long
abbrev pub length_refusal : List ℕ → ℕ → ℕ
length_refusal w out = pick (eqb out (line_len w)) done output_length

-- "Refusals in order: 12, 15 for a line number at or past the height, 13 against 4·width, 6, 14.", and 18
unfoldable pub line_refusal : ℕ → List ℕ → ℕ → ℕ → ℕ → ℕ → ℕ → ℕ
line_refusal bits w y out tables pictures floats =
    or_else (size_refusal w)
    (or_else (number_refusal w y) (or_else (length_refusal w out) (lent_refusal bits w tables pictures floats)))

-- of a scene and an output
abbrev pub line_refusal_of : Scene → ℕ → List ℕ → ℕ
line_refusal_of s y out =
    line_refusal (bits_of s.profile) s.words y (length out) (length s.tables) (length s.pictures)
    (length s.floats)

-- ---- the line: "For every accepted setting and every line its bytes and error bits are those of the whole frame."

-- line y of the whole frame, which is in raster order
unfoldable pub frame_line : Scene → ℕ → List ℕ
frame_line s y = take (line_len s.words) (drop (y * line_len s.words) (frame_of s))

-- the output after it, whatever it held; a refusal leaves "all unchanged"
unfoldable pub line_after : Scene → ℕ → List ℕ → List ℕ
line_after s y out = choose (eqb (line_refusal_of s y out) done) (frame_line s y) out

-- and the error word: the whole frame's, whichever the line
unfoldable pub line_errors_after : Scene → ℕ → List ℕ → ℕ → ℕ
line_errors_after s y out errors = pick (eqb (line_refusal_of s y out) done) (errors_of s 0 8 errors) errors
