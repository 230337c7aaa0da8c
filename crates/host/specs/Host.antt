-- The entry for a C host: 01 "Sheet program and host entry". Assumes nothing.
use Rattle.std.specs.Prelude.{ℕ, false, List, [], length, eqb}
use Rattle.lists.specs.Choice.{choose, or_else}
use Rattle.answers.specs.Answers.{done}
use Rattle.profiles.specs.declared.Profile.{Profile}
use Rattle.profiles.specs.Profile.{profile_of}
use Rattle.words.specs.Check.{check_of}
use Rattle.words.specs.Image.{words_of, image_refusal}
use Rattle.tables.specs.Geometry.{tables_len}
use Rattle.frames.specs.Scene.{Scene, scene_of}
use Rattle.frames.specs.Frame.{refusal_of, frame_of}

-- 02 K2: "the host entry goes by the table length": a glyph pixel has two bits where the tables are as long as those ask; K7:
-- it has "no such buffer" as float layers ask
abbrev pub profile_for : ℕ → Profile
profile_for tables = profile_of (eqb tables (tables_len 2)) false

-- "The C host calls one exported entry with a 208-byte register image (52 little-endian words), frame
-- number, tables, pictures, output.": what it paints from, the image's words for the active ones, and the
-- frame number as given
abbrev pub scene_in : List ℕ → ℕ → List ℕ → List ℕ → Scene
scene_in image frame tables pictures = scene_of (profile_for (length tables)) (words_of image) frame tables pictures []

-- "The image counts as active once checked as at a start, without regard to the update bit. Order 16,
-- 7, 8, 9 and 10, 11, 13, 6, 14.": the check has 7 to 11, and a frame's refusals are 13, 6, 14 once its
-- words have passed (`host-order`); 02 K7: 7 for bit 2; 02 K2: "6 compares with the chosen length, in the host entry with both."
-- (`host-tables`)
unfoldable pub host_answer : List ℕ → ℕ → List ℕ → List ℕ → List ℕ → ℕ
host_answer image frame tables pictures out =
    or_else (image_refusal image)
    (or_else (check_of false (words_of image)) (refusal_of (scene_in image frame tables pictures) 0 8 out))

-- "It paints a whole frame and answers the number; error bits are dropped, and every refusal leaves the
-- output unchanged."
unfoldable pub host_output : List ℕ → ℕ → List ℕ → List ℕ → List ℕ → List ℕ
host_output image frame tables pictures out =
    choose (eqb (host_answer image frame tables pictures out) done) (frame_of (scene_in image frame tables pictures)) out
