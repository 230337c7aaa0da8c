-- The small inputs: their states come to be, each is accepted, and what is promised of them, by
-- computing. Assumes nothing.
use Prim.Native.Nat.{ℕ, ◌<◌}
use mathlib.Core.Path.{◌≡◌, refl, sym, ap, ◌∙◌}
use mathlib.Core.Bool.{false}
use mathlib.Core.List.{List, [], ◌∷◌}
use native.Mathlib.Omega.{arith}
use borrow.Author.Tests.{eq-eqb, ne_eqb}
use lib.ListN.{length, get_or, length-replicate, get_or-replicate}
use lib.Seq.{take_at, take_all}
use Rattle.octets.specs.Bytes.{index_of, index_after}
use Rattle.lists.proofs.Call.{pair_is, tied-meets}
use Rattle.lists.specs.Over.{over}
use Rattle.lists.specs.Runs.{first_of, sum_of, run}
use Rattle.lists.specs.Little.{little_at}
use Rattle.lists.specs.Tab.{tab, each}
use Rattle.answers.specs.Answers.{done, empty_screen}
use Rattle.words.specs.Fields.{layer_of}
use Rattle.words.specs.Check.{reserved_at, kind_of, kind_at, screen_of, place_of, place_at, clash_of, clash_at, clash_below, check_of}
use Rattle.words.specs.Pictures.{picture_len, picture_len_at, picture_start, pictures_len, start_at}
use Rattle.tables.specs.Geometry.{tables_len, bank_len, kind_len}
use Rattle.mix.specs.Blend.{blend_of}
use Rattle.frames.specs.Pixel.{over_at, covers, alpha_at, own_at, buffer_of, picture_at}
use Rattle.frames.specs.Band.{layer_step, depth_step, band_by, band_byte, band_of, mark_at, missing, errors_of}
use Rattle.frames.specs.Frame as painting
use Rattle.frames.specs.Line.{line_refusal, line_refusal_of, frame_line, line_after, line_errors_after}
use Rattle.frames.proofs.CallerLaws.{length-frame_of}
use Rattle.display.specs.declared.Display.{Display}
use Rattle.display.specs.State.{write_of, select_of, toggle_of, start_of}
use Rattle.display.specs.Put.{put_answer, put_of}
use Rattle.display.specs.Paint.{fill_told, fill_bytes, paint_told, paint_bytes, frame_told, frame_bytes, line_told, line_bytes}
use Rattle.display.specs.Reached.{Reached, by-new, by-write, by-select, by-start}
use Rattle.display.proofs.Unique.{paint-tie, frame-tie, line-tie}
use Rattle.words.specs.Image.{words_from}
use Rattle.host.specs.Host as host
use Rattle.host.proofs.Unique.{host-tie}
use Rattle.hexadecimal.specs.Hex.{value_of, is_hex, bytes_in, digit_of, digits_of}
use Rattle.texts.specs.Lines.{ends_in, line_in}
use Rattle.texts.specs.Replies.{reply_text}
use Rattle.steps.specs.Form.{count_at, word_at, past_loads, writes_place, picture_place, end_place, is_formed}
use Rattle.steps.specs.Steps.{step_of, run_of, loads_at, writes_at, steps_of}
use Rattle.line.specs.Line.{started_of, zeros, lent_of, framed_of, painted_of, reply_of, closed_of, work_of, done_of}
use Rattle.line.specs.Line.{outcome_of, line_of}
use Rattle.line.specs.Sizes.{most_printed}
use Rattle.lines.specs.Sizes.{out_len}
use Rattle.lines.specs.Blocks.{fed_run, last_run, begun, next_run, turn_of, goes_on, turns_of, feed_of, finish_of}
use Rattle.lines.proofs.Unique.{run-line-tie, finish-tie, feed-tie}
use Rattle.laws.specs.Small.{Write, written_to, one_pixel, grey, night, written, started, sizeless, selecting}
use Rattle.laws.specs.Small.{first, blank, filled, white, clear, dim, bright, image, line, page, block, slate, gathered}
use Rattle.laws.specs.Small.{scene, painted, framed, host_scene, hosted, printed, Promised, reply_with, Paints}
use Rattle.laws.specs.Small.{lined, Frames, Scans, Hosts, Prints, Finishes, Feeds}

-- ---- what is unfolded to compute: the words, a frame, a line

unfoldable pub words_open : Unit {0}
unfolding check_of first_of reserved_at kind_at kind_of screen_of place_at place_of clash_below clash_at clash_of layer_of pictures_len
    picture_len_at picture_len sum_of
words_open = tt

unfoldable pub frame_open : Unit {0}
unfolding words_open painting.frame_of painting.fill_of painting.fill_byte band_of band_byte band_by depth_step layer_step run
    tab each over_at covers alpha_at own_at picture_at buffer_of start_at picture_start blend_of
frame_open = tt

unfoldable pub line_open : Unit {0}
unfolding frame_open errors_of mark_at missing painting.paint_refusal painting.frame_after paint_told painting.errors_after
    frame_told frame_bytes value_of is_hex bytes_in digit_of digits_of count_at word_at past_loads writes_place picture_place
    end_place is_formed step_of run_of loads_at writes_at steps_of started_of zeros lent_of framed_of painted_of reply_of closed_of
    work_of done_of outcome_of reply_text line_of
line_open = tt

-- ---- the states come to be

written_to-reached : {d : Display} → Reached d → (l : List Write) → Reached (written_to d l)
written_to-reached {d = d} r [] = r
written_to-reached {d = d} r (w ∷ rest) =
    written_to-reached {d = (write_of d w.register w.value).state} (by-write w.register w.value r) rest

pub written-reached : (ground : ℕ) → Reached (written ground)
written-reached ground = written_to-reached (by-new 1 false) (one_pixel ground)

pub started-reached : (ground : ℕ) → Reached (started ground)
started-reached ground = by-start (written-reached ground)

pub sizeless-reached : Reached sizeless
sizeless-reached = by-write 0 4 (by-new 1 false)

pub selecting-reached : Reached selecting
selecting-reached = by-select 1 (by-new 1 false)

-- ---- each call is accepted

pub blank-long : length blank ≡ tables_len 1
unfolding zeros
blank-long = length-replicate {A = ℕ} (tables_len 1) 0

-- tables of that length have one bit a glyph pixel
pub blank-rough : length blank ≡ tables_len 2 → ⊥
unfolding tables_len bank_len
blank-rough e = let z : tables_len 1 ≡ tables_len 2 = sym blank-long ∙ e in omega arith

pub blank-byte : (i : ℕ) → i < tables_len 1 → get_or blank i 0 ≡ 0
unfolding zeros
blank-byte i h = get_or-replicate {A = ℕ} (tables_len 1) i 0 0 h

pub write-accepted : (write_of first 0 1).answer ≡ done
write-accepted = refl

pub select-accepted : (select_of first 1).answer ≡ done
select-accepted = refl

pub toggle-accepted : (toggle_of first 1).answer ≡ done
toggle-accepted = refl

pub start-accepted : (start_of (written grey)).answer ≡ done
unfolding words_open
start-accepted = refl

-- but for this one, which is refused with 8
pub start-refused : (start_of sizeless).answer ≡ empty_screen
unfolding words_open
start-refused = refl

pub put-passes : put_answer selecting blank ≡ done
unfolding put_answer kind_len
put-passes = rw (eq-eqb _ _ blank-long)

pub put-accepted : (put_of selecting blank).answer ≡ done
unfolding put_of
put-accepted = put-passes

pub fill-accepted : ((fill_told (started grey) filled).answer ≡ done) × ((fill_told (started night) filled).answer ≡ done)
unfolding words_open fill_told painting.fill_refusal
fill-accepted = (refl, refl)

-- with any pictures of two pixels
module _ (pictures : List ℕ) (two : length pictures ≡ 8) where
  passes : painting.refusal_of (scene pictures) 0 8 filled ≡ done
  unfolding words_open painting.paint_refusal
  passes = rw (eq-eqb _ _ blank-long, two)

  pub paint-accepted : (paint_told (started grey) 0 8 blank pictures [] filled).answer ≡ done
  unfolding paint_told painting.errors_after
  paint-accepted = passes

  pub frame-accepted : (frame_told (started grey) blank pictures [] filled).answer ≡ done
  unfolding frame_told paint_told painting.errors_after
  frame-accepted = passes

  line-passes : line_refusal_of (scene pictures) 0 filled ≡ done
  unfolding words_open line_refusal
  line-passes = rw (eq-eqb _ _ blank-long, two)

  pub line-accepted : (line_told (started grey) 0 blank pictures [] filled).answer ≡ done
  unfolding line_told line_errors_after
  line-accepted = line-passes

  pub host-accepted : host.host_answer image 1 blank pictures filled ≡ done
  unfolding words_open host.host_answer words_from little_at tab painting.paint_refusal
  host-accepted = rw (ne_eqb _ _ blank-rough, eq-eqb _ _ blank-long, two)

  -- ---- what is promised: the frame of the scene

  pub painted-is : painted pictures ≡ painting.frame_of (scene pictures)
  unfolding frame_open paint_bytes painting.paint_after
  painted-is = rw passes

  pub framed_is : framed pictures ≡ painting.frame_of (scene pictures)
  unfolding frame_bytes painting.frame_after
  framed_is = rw passes

  -- the frame has one line
  pub lined-is : lined pictures ≡ painting.frame_of (scene pictures)
  unfolding line_bytes line_after frame_line words_open
  lined-is = rw line-passes (take_all 4 (painting.frame_of (scene pictures)) (omega (arith, length-frame_of (scene pictures))))

  pub host-scene : host_scene pictures ≡ scene pictures
  unfolding words_open words_from little_at tab
  host-scene = rw (ne_eqb _ _ blank-rough)

  pub hosted-is : hosted pictures ≡ painting.frame_of (scene pictures)
  unfolding host.host_output
  hosted-is = rw host-accepted (ap painting.frame_of host-scene)

-- and so the bytes by each picture
promised : (pictures bytes : List ℕ) → length pictures ≡ 8 → painting.frame_of (scene pictures) ≡ bytes
    → Promised pictures bytes
promised pictures bytes two is =
    record {
      paint = painted-is pictures two ∙ is;
      frame = framed_is pictures two ∙ is;
      scan = lined-is pictures two ∙ is;
      host = hosted-is pictures two ∙ is;
    }

pub white-promised : Promised white (255 ∷ 255 ∷ 255 ∷ 255 ∷ [])
unfolding frame_open
white-promised = promised white _ refl refl

pub clear-promised : Promised clear (100 ∷ 100 ∷ 100 ∷ 255 ∷ [])
unfolding frame_open
clear-promised = promised clear _ refl refl

pub dim-promised : Promised dim (100 ∷ 100 ∷ 100 ∷ 255 ∷ [])
unfolding frame_open
dim-promised = promised dim _ refl refl

pub bright-promised : Promised bright (101 ∷ 101 ∷ 101 ∷ 255 ∷ [])
unfolding frame_open
bright-promised = promised bright _ refl refl

pub grey-fill : fill_bytes (started grey) filled ≡ 100 ∷ 100 ∷ 100 ∷ 255 ∷ []
unfolding frame_open fill_bytes painting.fill_after painting.fill_refusal
grey-fill = refl

pub night-fill : fill_bytes (started night) filled ≡ 0 ∷ 0 ∷ 0 ∷ 255 ∷ []
unfolding frame_open fill_bytes painting.fill_after painting.fill_refusal
night-fill = refl

-- ---- a line: answer 0, no error, one by one pixel, and the frame

-- with any tables of the right length
module _ (t : List ℕ) (long : length t ≡ tables_len 1) where
  line-white : (line_of first t (line white)).printed ≡ reply_with (255 ∷ 255 ∷ 255 ∷ 255 ∷ [])
  unfolding line_open
  line-white = rw (eq-eqb _ _ long)

  line_clear : (line_of first t (line clear)).printed ≡ reply_with (100 ∷ 100 ∷ 100 ∷ 255 ∷ [])
  unfolding line_open
  line_clear = rw (eq-eqb _ _ long)

  line-dim : (line_of first t (line dim)).printed ≡ reply_with (100 ∷ 100 ∷ 100 ∷ 255 ∷ [])
  unfolding line_open
  line-dim = rw (eq-eqb _ _ long)

  line-bright : (line_of first t (line bright)).printed ≡ reply_with (101 ∷ 101 ∷ 101 ∷ 255 ∷ [])
  unfolding line_open
  line-bright = rw (eq-eqb _ _ long)

-- in n bytes
module _ (n : ℕ) where
  pub on-page : {x y : List ℕ} → x ≡ y → over x (page n) ≡ over y (page n)
  on-page e = ap (λ (l : List ℕ). over l (page n)) e

  pub printed-white : printed n white ≡ over (reply_with (255 ∷ 255 ∷ 255 ∷ 255 ∷ [])) (page n)
  printed-white = on-page (line-white blank blank-long)

  pub printed-clear : printed n clear ≡ over (reply_with (100 ∷ 100 ∷ 100 ∷ 255 ∷ [])) (page n)
  printed-clear = on-page (line_clear blank blank-long)

  pub printed-dim : printed n dim ≡ over (reply_with (100 ∷ 100 ∷ 100 ∷ 255 ∷ [])) (page n)
  printed-dim = on-page (line-dim blank blank-long)

  pub printed-bright : printed n bright ≡ over (reply_with (101 ∷ 101 ∷ 101 ∷ 255 ∷ [])) (page n)
  printed-bright = on-page (line-bright blank blank-long)

-- ---- the end of a sheet and a block run that line too

last_line : (pictures : List ℕ) → last_run first blank (line pictures) ≡ line_of first blank (line pictures)
unfolding last_run digits_of
last_line pictures =
    let some : length (line pictures) ≡ 0 → ⊥ = λ e. omega arith in rw (ne_eqb (length (line pictures)) 0 some)

pub finish-line : (pictures : List ℕ)
    → finish_of (gathered (line pictures)) blank (slate (line pictures)) ≡ line_of first blank (line pictures)
unfolding over
finish-line pictures =
    ap (last_run first blank) (take_at (line pictures) _ (length (line pictures)) refl) ∙ last_line pictures

-- what `feed` prints of the pictures' line
abbrev Fed : List ℕ → Type 0
Fed pictures = (feed_of begun blank (slate []) (block pictures)).printed ≡ (line_of first blank (line pictures)).printed

pub feed-white : Fed white
unfolding feed_of turns_of goes_on turn_of next_run fed_run line_in ends_in index_of index_after over digits_of digit_of
feed-white = refl

pub feed-clear : Fed clear
unfolding feed_of turns_of goes_on turn_of next_run fed_run line_in ends_in index_of index_after over digits_of digit_of
feed-clear = refl

pub feed-dim : Fed dim
unfolding feed_of turns_of goes_on turn_of next_run fed_run line_in ends_in index_of index_after over digits_of digit_of
feed-dim = refl

pub feed-bright : Fed bright
unfolding feed_of turns_of goes_on turn_of next_run fed_run line_in ends_in index_of index_after over digits_of digit_of
feed-bright = refl

-- ---- the output that meets a call's contract is the promised one

pub paints-is : {pictures out : List ℕ} → Paints pictures out → out ≡ painted pictures
paints-is m = (pair_is.1 (tied-meets paint-tie m.1)).1

pub frames-is : {pictures out : List ℕ} → Frames pictures out → out ≡ framed pictures
frames-is m = (pair_is.1 (tied-meets frame-tie m.1)).1

pub scans-is : {pictures out : List ℕ} → Scans pictures out → out ≡ lined pictures
scans-is m = (pair_is.1 (tied-meets line-tie m.1)).1

pub hosts-is : {pictures out : List ℕ} → Hosts pictures out → out ≡ hosted pictures
hosts-is m = (pair_is.1 (tied-meets host-tie m.1)).1

pub prints-is : (pictures : List ℕ) {out : List ℕ} → Prints pictures out → out ≡ printed most_printed pictures
prints-is pictures m j = (tied-meets run-line-tie m.2 j).2

pub finishes-is : (pictures : List ℕ) {out : List ℕ} → Finishes pictures out → out ≡ printed out_len pictures
finishes-is pictures m =
    (λ j. (tied-meets finish-tie m.2 j).2) ∙ on-page out_len (λ j. (finish-line pictures j).printed)

pub feeds-is : (pictures : List ℕ) {out : List ℕ} → Fed pictures → Feeds pictures out → out ≡ printed out_len pictures
feeds-is pictures e m = (λ j. (tied-meets feed-tie m.3 j).3) ∙ on-page out_len e
