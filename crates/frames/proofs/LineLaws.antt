-- A line of a whole frame, and what passes. Assumes nothing.
use mathlib.Core.Path.{◌≡◌, ap, ◌∙◌}
use mathlib.Core.Bool.{Bool, true, false}
use mathlib.Core.List.{List}
use Prim.Native.Nat.{ℕ, ◌+◌, ◌*◌, ◌%◌, ◌≤◌, ◌<◌}
use native.Mathlib.Nat.{mul_comm, mul_assoc}
use native.Mathlib.Omega.{arith}
use borrow.Author.Tests.{eqb-true, ltb-true}
use lib.Dec.{eqb, ltb}
use lib.ListN.{length, get_or}
use Rattle.lists.specs.Choice.{pick, choose}
use Rattle.lists.specs.Tab.{tab, each}
use Rattle.lists.proofs.Choice.{lets-through, or_else-left, or_else-right}
use Rattle.lists.proofs.Digits.{row_room}
use Rattle.lists.proofs.Tab.{length-tab, get_d-tab, get_d-each, length_part, get_d_part}
use Rattle.words.specs.Fields.{shown_of, width_of, height_of}
use Rattle.words.specs.Pictures.{pictures_len}
use Rattle.tables.specs.Geometry.{tables_len}
use Rattle.frames.specs.Scene.{Scene}
use Rattle.frames.specs.Band.{band_byte, band_of}
use Rattle.frames.specs.Frame.{size_refusal, frame_len, tables_refusal, pictures_refusal, fill_byte, fill_of, frame_of}
use Rattle.frames.specs.Line.{number_refusal, line_len, length_refusal, line_refusal, frame_line}
use Rattle.frames.proofs.CallerLaws.{size-wide, length-frame_of}

-- ---- what passes

-- the words, the line's number and the lengths that a line takes
pub record LineFits (bits : ℕ) (w : List ℕ) (y out tables pictures floats : ℕ) : Type 0 where
  pub wide : 0 < width_of w
  pub number : y < height_of w
  pub long : out ≡ line_len w
  pub lent : tables ≡ tables_len bits
  pub shown : pictures ≡ pictures_len false w
  pub flows : floats ≡ pictures_len true w

pub line-fits : (bits : ℕ) (w : List ℕ) (y out tables pictures floats : ℕ)
    → line_refusal bits w y out tables pictures floats ≡ 0 → LineFits bits w y out tables pictures floats
unfolding line_refusal
line-fits bits w y out tables pictures floats e =
    let p = or_else-right (size_refusal w) _ e in
    let q = or_else-right (number_refusal w y) _ p in
    let r = or_else-right (length_refusal w out) _ q in
    let t = or_else-right (tables_refusal bits tables) _ r in
    record {
      wide = size-wide w (or_else-left (size_refusal w) _ e);
      number = ltb-true _ _ (lets-through (ltb y (height_of w)) 14 (or_else-left (number_refusal w y) _ p));
      long = eqb-true _ _ (lets-through (eqb out (line_len w)) 12 (or_else-left (length_refusal w out) _ q));
      lent = eqb-true _ _ (lets-through (eqb tables (tables_len bits)) 5 (or_else-left (tables_refusal bits tables) _ r));
      shown =
          eqb-true _ _ (lets-through (eqb pictures (pictures_len false w)) 13 (or_else-left (pictures_refusal w pictures) _ t));
      flows =
          eqb-true _ _ (lets-through (eqb floats (pictures_len true w)) 17 (or_else-right (pictures_refusal w pictures) _ t));
    }

-- ---- a frame is its lines: line y begins at its pixel y * W

pub frame-lines : (W H : ℕ) → H * (4 * W) ≡ 4 * (W * H)
frame-lines W H = omega (arith, mul_comm W H, mul_assoc H 4 W, mul_comm H 4, mul_assoc 4 H W)

pub four : (y W : ℕ) → y * (4 * W) ≡ 4 * (y * W)
four y W = omega (arith, mul_assoc y 4 W, mul_comm y 4, mul_assoc 4 y W)

-- line y lies in the frame
pub line-room : (w : List ℕ) (y : ℕ) → y < height_of w → y * line_len w + line_len w ≤ frame_len w
line-room w y h =
    omega (arith, row_room y (height_of w) (4 * width_of w) h, frame-lines (width_of w) (height_of w))

module _ (s : Scene) (y : ℕ) where
  pub length-frame_line : y < height_of s.words → length (frame_line s y) ≡ line_len s.words
  unfolding frame_line
  length-frame_line h =
      length_part (frame_of s) (y * line_len s.words) (line_len s.words)
      (omega (arith, line-room s.words y h, length-frame_of s))

  pub frame_line-at : (i : ℕ) → i < line_len s.words
      → get_or (frame_line s y) i 0 ≡ get_or (frame_of s) (y * line_len s.words + i) 0
  unfolding frame_line
  frame_line-at i h = get_d_part (frame_of s) (y * line_len s.words) (line_len s.words) i h

-- byte i of the frame
pub frame_of-at : (s : Scene) (i : ℕ) → i < frame_len s.words
    → get_or (frame_of s) i 0
    ≡ pick (shown_of s.words) (band_byte s 0 8 i (fill_byte s.words i)) (fill_byte s.words i)
unfolding frame_of band_of fill_of
frame_of-at s i h = go (shown_of s.words)
  where
    fill : get_or (tab (frame_len s.words) (fill_byte s.words)) i 0 ≡ fill_byte s.words i
    fill = get_d-tab (frame_len s.words) _ i h

    go : (t : Bool)
        → get_or (choose t (each (band_byte s 0 8) (tab (frame_len s.words) (fill_byte s.words)))
        (tab (frame_len s.words) (fill_byte s.words))) i 0
        ≡ pick t (band_byte s 0 8 i (fill_byte s.words i)) (fill_byte s.words i)
    go true =
        get_d-each (band_byte s 0 8) _ i (omega (arith, length-tab (frame_len s.words) (fill_byte s.words)))
        ∙ ap (band_byte s 0 8 i) fill
    go false = fill

-- the background goes by the channel alone, so each line of it is the same
pub fill-line : (w : List ℕ) (y i : ℕ) → fill_byte w (y * line_len w + i) ≡ fill_byte w i
unfolding fill_byte
fill-line w y i =
    let q : (y * (4 * width_of w) + i) % 4 ≡ i % 4 = omega (arith, four y (width_of w)) in rw q
