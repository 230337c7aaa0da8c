-- Each wrong display breaks the contract of each call that it fits, on a small input that is accepted
-- (`proofs/Small.antt`). A law CALL-IMPOSTOR says that its outcome does not meet the call's contract, and
-- IMPOSTOR-breaks says so of all that paint. Assumes nothing.
use Prim.Native.Nat.{ℕ, ◌<◌}
use mathlib.Core.Path.{◌≡◌, refl, sym, ap, ◌∙◌}
use mathlib.Core.Bool.{true}
use mathlib.Core.List.{List, [], ◌∷◌}
use native.Mathlib.Omega.{arith}
use borrow.Author.Tests.{eq-eqb}
use lib.ListN.{length, get_or, take, get_or-replicate}
use lib.Seq.{get_or-set_same}
use Rattle.lists.specs.Call.{Meets}
use Rattle.lists.specs.Little.{little_at}
use Rattle.lists.specs.Over.{over}
use Rattle.lists.specs.Steps.{through, keep}
use Rattle.lists.specs.Bytes.{little_byte, little_bytes}
use Rattle.lists.specs.Tab.{tab}
use Rattle.lists.proofs.Call.{pair_is, quadruple-is, tied-meets}
use Rattle.answers.specs.Answers.{done, glyph_bits}
use Rattle.words.specs.Change.{with_off}
use Rattle.words.specs.Order.{layers_at, layers_below, order_of, band_layers}
use Rattle.profiles.specs.Profile.{one_bit, two_bits}
use Rattle.order.specs.Layout.{layout_of}
use Rattle.tables.specs.Geometry.{tables_len, bank_len, kind_at}
use Rattle.frames.specs.Scene.{Scene}
use Rattle.frames.specs.Band.{pixel_at, band_byte, band_of}
use Rattle.display.specs.declared.Told.{Told}
use Rattle.display.specs.declared.Ran.{Ran}
use Rattle.display.specs.declared.Display.{Display}
use Rattle.display.specs.State.{bits_in, fresh, told, write_of}
use Rattle.display.specs.Runs.{ran, told_by, write_run_of}
use Rattle.display.proofs.PutLaws.{put-done}
use Rattle.display.proofs.Unique.{new_call, write_call, select_call, toggle_call, start_call, put_call, fill_call, paint_call}
use Rattle.display.proofs.Unique.{frame_call, new-tie, write-tie, select-tie, toggle-tie, start-tie, put-tie, fill-tie}
use Rattle.display.proofs.Unique.{paint-tie, frame-tie, line_call, line-tie, put_run_call, write_run_call, put-run-tie, write-run-tie}
use Rattle.host.proofs.Unique.{host_call, host-tie}
use Rattle.repair.specs.Image.{image_of}
use Rattle.repair.proofs.Unique.{mend_call, mend-tie}
use Rattle.repair.proofs.Worked.{crooked, straight, crooked-mended, lone, lone-left}
use Rattle.line.specs.Sizes.{most_printed}
use Rattle.line.specs.Line.{zeros}
use Rattle.lines.specs.Sizes.{out_len}
use Rattle.laws.specs.Small.{first, grey, night, written, started, sizeless, selecting, blank, filled, white, clear, dim}
use Rattle.laws.specs.Small.{bright, image, line, page, printed, reply_with, Paints, Frames, Hosts, Prints}
use Rattle.laws.specs.Small.{one_write, Scans, Finishes, Feeds}
use Rattle.laws.specs.Impostors.{TurnsDown, PrintsDown, untouched, and_not, stopped_start, old_order, Rule, painted_by}
use Rattle.laws.specs.Impostors.{framed_by, printed_by, lowest, by256, numbered, ground_last, paint_by, frame_by}
use Rattle.laws.specs.Impostors.{host_by, line_by, Breaks}
use Rattle.laws.proofs.Small as small
use Rattle.laws.proofs.Runs.{put-run-one, put-run-all, write-run-one, write-run-all}

-- what differs by a number of it is not the same, as two lists are not that differ at a place
apart : {A : Type 0} (f : A → ℕ) {x y : A} → (f x ≡ f y → ⊥) → x ≡ y → ⊥
apart f ne e = ne (ap f e)

pub differ : (k : ℕ) {x y : List ℕ} → (get_or x k 0 ≡ get_or y k 0 → ⊥) → x ≡ y → ⊥
differ k = apart (λ (l : List ℕ). get_or l k 0)

-- ---- "one that turns everything down"

refused : {t u : Told} → u.answer ≡ done → TurnsDown t.answer → t ≡ u → ⊥
refused accepted down e = down (ap (λ (r : Told). r.answer) e ∙ accepted)

-- what it answers and leaves
pub write-one : told_by (write_run_of first one_write) ≡ write_of first 0 1
unfolding little_at
write-one = write-run-one first one_write refl

module _ (t : Told) (down : TurnsDown t.answer) where
  pub new-down : Meets new_call (1, true) t → ⊥
  new-down m = refused refl down (tied-meets new-tie m)

  pub write-down : Meets write_call (first, 0, 1) t → ⊥
  write-down m = refused small.write-accepted down (tied-meets write-tie m)

  pub select-down : Meets select_call (first, 1) t → ⊥
  select-down m = refused small.select-accepted down (tied-meets select-tie m)

  pub toggle-down : Meets toggle_call (first, 1) t → ⊥
  toggle-down m = refused small.toggle-accepted down (tied-meets toggle-tie m)

  pub start-down : Meets start_call (written grey) t → ⊥
  start-down m = refused small.start-accepted down (tied-meets start-tie m)

  pub put-down : (tables : List ℕ) → Meets put_call (selecting, blank, 7) (t, tables) → ⊥
  put-down tables m = refused small.put-accepted down (pair_is.1 (tied-meets put-tie m)).0

  -- with any count
  pub put-run-down : (n : ℕ) (tables : List ℕ)
      → Meets put_run_call (selecting, blank, 7 ∷ []) (ran t.state t.answer n, tables) → ⊥
  put-run-down n tables m =
      refused small.put-accepted down
      (ap told_by (pair_is.1 (tied-meets put-run-tie m)).0 ∙ (put-run-one selecting blank 7).0)

  pub write-run-down : (n : ℕ) → Meets write_run_call (first, one_write) (ran t.state t.answer n) → ⊥
  write-run-down n m = refused small.write-accepted down (ap told_by (tied-meets write-run-tie m) ∙ write-one)

  pub fill-down : (out : List ℕ) → Meets fill_call (started grey, filled) (t, out) → ⊥
  fill-down out m = refused (small.fill-accepted).0 down (pair_is.1 (tied-meets fill-tie m)).0

  pub paint-down : (out : List ℕ) → Meets paint_call (started grey, 0, 8, blank, white, [], filled) (t, out) → ⊥
  paint-down out m = refused (small.paint-accepted white refl) down (pair_is.1 (tied-meets paint-tie m)).0

  pub frame-down : (out : List ℕ) → Meets frame_call (started grey, blank, white, [], filled) (t, out) → ⊥
  frame-down out m = refused (small.frame-accepted white refl) down (pair_is.1 (tied-meets frame-tie m)).0

  -- a frame's line, not a sheet's
  pub scan-down : (out : List ℕ) → Meets line_call (started grey, 0, blank, white, [], filled) (t, out) → ⊥
  scan-down out m = refused (small.line-accepted white refl) down (pair_is.1 (tied-meets line-tie m)).0

pub host-down : (answer : ℕ) (out : List ℕ) → TurnsDown answer
    → Meets host_call (image, 1, blank, white, filled) (answer, out) → ⊥
host-down answer out down m = down ((pair_is.1 (tied-meets host-tie m)).0 ∙ small.host-accepted white refl)

printed-down : (n : ℕ) (out : List ℕ) → PrintsDown out → out ≡ printed n white → ⊥
unfolding small.line_open over
printed-down n out down e = down (ap (take 2) (e ∙ small.printed-white n))

module _ (out : List ℕ) (down : PrintsDown out) where
  pub line-down : Prints white out → ⊥
  line-down m = printed-down most_printed out down (small.prints-is white m)

  pub finish-down : Finishes white out → ⊥
  finish-down m = printed-down out_len out down (small.finishes-is white m)

  pub feed-down : Feeds white out → ⊥
  feed-down m = printed-down out_len out down (small.feeds-is white small.feed-white m)

-- ---- "one that gives one fixed frame": it does not meet the contract on both of two inputs

-- an outcome that is the same for both
not-both : (k : ℕ) {o x y : List ℕ} → (get_or x k 0 ≡ get_or y k 0 → ⊥) → o ≡ x → o ≡ y → ⊥
not-both k ne p q = differ k ne (sym p ∙ q)

-- of the white and the clear pictures
pub one-frame : {o x y : List ℕ} → x ≡ 255 ∷ 255 ∷ 255 ∷ 255 ∷ [] → y ≡ 100 ∷ 100 ∷ 100 ∷ 255 ∷ [] → o ≡ x → o ≡ y → ⊥
one-frame white clear p q = not-both 0 (λ (z : 255 ≡ 100). omega arith) (p ∙ white) (q ∙ clear)

one-text : (n : ℕ) {out : List ℕ} → out ≡ printed n white → out ≡ printed n clear → ⊥
unfolding small.line_open over
one-text n p q = not-both 18 (λ (z : 70 ≡ 54). omega arith) (p ∙ small.printed-white n) (q ∙ small.printed-clear n)

module _ (fixed : List ℕ) where
  pub fill-fixed : (t u : Told) → Meets fill_call (started grey, filled) (t, fixed)
      → Meets fill_call (started night, filled) (u, fixed) → ⊥
  fill-fixed t u m n =
      not-both 0 (λ (z : 100 ≡ 0). omega arith)
      ((pair_is.1 (tied-meets fill-tie m)).1 ∙ small.grey-fill)
      ((pair_is.1 (tied-meets fill-tie n)).1 ∙ small.night-fill)

  pub paint-fixed : Paints white fixed → Paints clear fixed → ⊥
  paint-fixed m n =
      one-frame (small.white-promised).paint (small.clear-promised).paint (small.paints-is m) (small.paints-is n)

  pub frame-fixed : Frames white fixed → Frames clear fixed → ⊥
  frame-fixed m n =
      one-frame (small.white-promised).frame (small.clear-promised).frame (small.frames-is m) (small.frames-is n)

  pub scan-fixed : Scans white fixed → Scans clear fixed → ⊥
  scan-fixed m n =
      one-frame (small.white-promised).scan (small.clear-promised).scan (small.scans-is m) (small.scans-is n)

  pub host-fixed : Hosts white fixed → Hosts clear fixed → ⊥
  host-fixed m n =
      one-frame (small.white-promised).host (small.clear-promised).host (small.hosts-is m) (small.hosts-is n)

  pub line-fixed : Prints white fixed → Prints clear fixed → ⊥
  line-fixed m n = one-text most_printed (small.prints-is white m) (small.prints-is clear n)

  pub finish-fixed : Finishes white fixed → Finishes clear fixed → ⊥
  finish-fixed m n =
      one-text out_len (small.finishes-is white m) (small.finishes-is clear n)

  pub feed-fixed : Feeds white fixed → Feeds clear fixed → ⊥
  feed-fixed m n = one-text out_len (small.feeds-is white small.feed-white m) (small.feeds-is clear small.feed-clear n)

-- ---- "one that touches nothing"

pub write-untouched : Meets write_call (first, 0, 1) (untouched first) → ⊥
write-untouched m =
    apart (λ (t : Told). get_or t.state.pending 0 0) (λ (z : 0 ≡ 1). omega arith) (tied-meets write-tie m)

pub select-untouched : Meets select_call (first, 1) (untouched first) → ⊥
select-untouched m =
    apart (λ (t : Told). t.state.selection.number) (λ (z : 0 ≡ 1). omega arith) (tied-meets select-tie m)

pub toggle-untouched : Meets toggle_call (first, 1) (untouched first) → ⊥
toggle-untouched m = apart (λ (t : Told). t.state.errors) (λ (z : 0 ≡ 1). omega arith) (tied-meets toggle-tie m)

pub start-untouched : Meets start_call (written grey) (untouched (written grey)) → ⊥
unfolding small.words_open
start-untouched m = apart (λ (t : Told). t.state.frame) (λ (z : 0 ≡ 1). omega arith) (tied-meets start-tie m)

-- neither the state nor the tables stay as they were
pub put-untouched : ((tables : List ℕ) → Meets put_call (selecting, blank, 7) (untouched selecting, tables) → ⊥)
    × ((t : Told) → Meets put_call (selecting, blank, 7) (t, blank) → ⊥)
unfolding kind_at tables_len bank_len
put-untouched =
    let stored = put-done selecting blank 7 small.put-passes in (
      λ tables m. apart (λ (t : Told). t.state.selection.place) (λ (z : 0 ≡ 1). omega arith)
          ((pair_is.1 (tied-meets put-tie m)).0 ∙ sym stored.0),
      λ t m. let z : get_or blank 1856 0 ≡ 7 =
          ap (λ (l : List ℕ). get_or l 1856 0) ((pair_is.1 (tied-meets put-tie m)).1 ∙ sym stored.1)
          ∙ get_or-set_same blank 1856 7 0 (rw small.blank-long (omega arith)) in
          omega (arith, small.blank-byte 1856 (omega arith)),
    )

-- with any count
pub put-run-untouched : (n : ℕ) (tables : List ℕ)
    → Meets put_run_call (selecting, blank, 7 ∷ []) (ran selecting done n, tables) → ⊥
put-run-untouched n tables m =
    apart (λ (t : Told). t.state.selection.place) (λ (z : 0 ≡ 1). omega arith)
    (ap told_by (pair_is.1 (tied-meets put-run-tie m)).0 ∙ (put-run-one selecting blank 7).0
    ∙ sym (put-done selecting blank 7 small.put-passes).0)

pub write-run-untouched : (n : ℕ) → Meets write_run_call (first, one_write) (ran first done n) → ⊥
write-run-untouched n m =
    apart (λ (t : Told). get_or t.state.pending 0 0) (λ (z : 0 ≡ 1). omega arith)
    (ap told_by (tied-meets write-run-tie m) ∙ write-one)

-- ---- "the place of the first refused item or the length of the run": one that counts anything but the one item

module _ (r : Ran) (miscounted : r.done ≡ 1 → ⊥) where
  pub put-run-miscounted : (tables : List ℕ) → Meets put_run_call (selecting, blank, 7 ∷ []) (r, tables) → ⊥
  put-run-miscounted tables m =
      let e = (pair_is.1 (tied-meets put-run-tie m)).0 in
      let a = ap (λ (t : Told). t.answer) (put-run-one selecting blank 7).0 ∙ small.put-accepted in
      miscounted (ap (λ (x : Ran). x.done) e ∙ put-run-all selecting blank (7 ∷ []) a)

  pub write-run-miscounted : Meets write_run_call (first, one_write) r → ⊥
  write-run-miscounted m =
      let e = tied-meets write-run-tie m in
      let a = ap (λ (t : Told). t.answer) write-one ∙ small.write-accepted in
      miscounted (ap (λ (x : Ran). x.done) e ∙ write-run-all first one_write a)

pub fill-untouched : (t : Told) → Meets fill_call (started night, filled) (t, filled) → ⊥
fill-untouched t m = differ 0 (λ (z : 100 ≡ 0). omega arith) ((pair_is.1 (tied-meets fill-tie m)).1 ∙ small.night-fill)

pub paint-untouched : Paints white filled → ⊥
paint-untouched m = differ 0 (λ (z : 100 ≡ 255). omega arith) (small.paints-is m ∙ (small.white-promised).paint)

pub frame-untouched : Frames white filled → ⊥
frame-untouched m = differ 0 (λ (z : 100 ≡ 255). omega arith) (small.frames-is m ∙ (small.white-promised).frame)

pub scan-untouched : Scans white filled → ⊥
scan-untouched m = differ 0 (λ (z : 100 ≡ 255). omega arith) (small.scans-is m ∙ (small.white-promised).scan)

pub host-untouched : Hosts white filled → ⊥
host-untouched m = differ 0 (λ (z : 100 ≡ 255). omega arith) (small.hosts-is m ∙ (small.white-promised).host)

blank-page : (n : ℕ) → 0 < n → page n ≡ printed n white → ⊥
unfolding small.line_open zeros over
blank-page n some e =
    differ 0 (λ (z : get_or (page n) 0 0 ≡ 48). omega (arith, get_or-replicate {A = ℕ} n 0 0 0 some))
    (e ∙ small.printed-white n)

pub line-untouched : Prints white (page most_printed) → ⊥
line-untouched m = blank-page most_printed (omega arith) (small.prints-is white m)

pub finish-untouched : Finishes white (page out_len) → ⊥
finish-untouched m = blank-page out_len (omega arith) (small.finishes-is white m)

pub feed-untouched : Feeds white (page out_len) → ⊥
feed-untouched m = blank-page out_len (omega arith) (small.feeds-is white small.feed-white m)

-- ---- a wrong number of bits: every state has one; any number is taken; "a fresh one-bit state" has two

pub new-rough : Meets new_call (2, true) (told (fresh (one_bit true)) done) → ⊥
new-rough m = apart (λ (t : Told). bits_in t.state) (λ (z : 1 ≡ 2). omega arith) (tied-meets new-tie m)

pub new-taken : (d : Display) → Meets new_call (3, true) (told d done) → ⊥
new-taken d m = apart (λ (t : Told). t.answer) (λ (z : 0 ≡ 17). omega arith) (tied-meets new-tie m)

pub new-soft : Meets new_call (3, true) (told (fresh (two_bits true)) glyph_bits) → ⊥
new-soft m = apart (λ (t : Told). bits_in t.state) (λ (z : 2 ≡ 1). omega arith) (tied-meets new-tie m)

-- ---- errors of toggle and start

pub toggle-and-not : Meets toggle_call (first, 1) (and_not first 1) → ⊥
toggle-and-not m = apart (λ (t : Told). t.state.errors) (λ (z : 0 ≡ 1). omega arith) (tied-meets toggle-tie m)

pub start-stopped : Meets start_call sizeless (stopped_start sizeless) → ⊥
unfolding small.words_open
start-stopped m = apart (λ (t : Told). t.state.frame) (λ (z : 0 ≡ 1). omega arith) (tied-meets start-tie m)

pub start-old-order : Meets start_call (written grey) (old_order (written grey)) → ⊥
unfolding small.words_open layout_of order_of layers_below layers_at
start-old-order m =
    apart (λ (t : Told). t.state.layout.order.count) (λ (z : 0 ≡ 2). omega arith) (tied-meets start-tie m)

-- ---- other rules of painting

-- by the document's own rule a painting is the promised one: a wrong display differs by its rule alone
pub rule-is : (s : Scene) (a b : ℕ) (out : List ℕ) → painted_by pixel_at s a b out ≡ band_of s a b out
unfolding band_of band_byte
rule-is s a b out = refl

-- the line with the white picture, with any tables of the right length
abbrev Answers : Rule → List ℕ → Type 0
Answers rule text = (t : List ℕ) → length t ≡ tables_len 1 → printed_by rule first t (line white) ≡ text

-- with a frame x and a text y that are not the promised ones
breaks : (rule : Rule) {x y : List ℕ} → frame_by rule white ≡ x → (x ≡ 255 ∷ 255 ∷ 255 ∷ 255 ∷ [] → ⊥) → Answers rule y
    → ((n : ℕ) → over y (page n) ≡ over (reply_with (255 ∷ 255 ∷ 255 ∷ 255 ∷ [])) (page n) → ⊥)
    → Breaks rule
unfolding small.frame_open
breaks rule is wrong text wrong-text =
    let wrong-line : (n : ℕ) → line_by rule n white ≡ printed n white → ⊥ =
    λ n e. wrong-text n (small.on-page n (sym (text blank small.blank-long)) ∙ e ∙ small.printed-white n) in
    record {
      paint = λ m. wrong (sym is ∙ small.paints-is m ∙ (small.white-promised).paint);
      frame = λ m. wrong (sym is ∙ small.frames-is m ∙ (small.white-promised).frame);
      scan = λ m. wrong (sym is ∙ small.scans-is m ∙ (small.white-promised).scan);
      host = λ m. wrong (sym is ∙ ap (framed_by rule) (sym (small.host-scene white refl)) ∙ small.hosts-is m
          ∙ (small.white-promised).host);
      line = λ m. wrong-line most_printed (small.prints-is white m);
      finish = λ m. wrong-line out_len (small.finishes-is white m);
      feed = λ m. wrong-line out_len (small.feeds-is white small.feed-white m);
    }

-- the lowest layer alone: it is the dark one
pub lowest-frame : frame_by lowest white ≡ 10 ∷ 20 ∷ 30 ∷ 255 ∷ []
unfolding small.frame_open band_layers order_of layers_below layers_at keep through
lowest-frame = refl

lowest-text : Answers lowest (reply_with (10 ∷ 20 ∷ 30 ∷ 255 ∷ []))
unfolding small.line_open band_layers order_of layers_below layers_at keep through
lowest-text t long = rw (eq-eqb _ _ long)

pub lowest-breaks : Breaks lowest
unfolding small.line_open over
lowest-breaks =
    breaks lowest lowest-frame (differ 0 (λ (z : 10 ≡ 255). omega arith)) lowest-text
    (λ n. differ 18 (λ (z : 48 ≡ 70). omega arith))

-- divided by 256: white is 254
pub by256-frame : frame_by by256 white ≡ 254 ∷ 254 ∷ 254 ∷ 255 ∷ []
unfolding small.frame_open
by256-frame = refl

by256-text : Answers by256 (reply_with (254 ∷ 254 ∷ 254 ∷ 255 ∷ []))
unfolding small.line_open
by256-text t long = rw (eq-eqb _ _ long)

pub by256-breaks : Breaks by256
unfolding small.line_open over
by256-breaks =
    breaks by256 by256-frame (differ 0 (λ (z : 254 ≡ 255). omega arith)) by256-text
    (λ n. differ 19 (λ (z : 69 ≡ 70). omega arith))

-- layer number for depth: the dark layer lies on top
pub numbered-frame : frame_by numbered white ≡ 10 ∷ 20 ∷ 30 ∷ 255 ∷ []
unfolding small.frame_open
numbered-frame = refl

numbered-text : Answers numbered (reply_with (10 ∷ 20 ∷ 30 ∷ 255 ∷ []))
unfolding small.line_open
numbered-text t long = rw (eq-eqb _ _ long)

pub numbered-breaks : Breaks numbered
unfolding small.line_open over
numbered-breaks =
    breaks numbered numbered-frame (differ 0 (λ (z : 10 ≡ 255). omega arith)) numbered-text
    (λ n. differ 18 (λ (z : 48 ≡ 70). omega arith))

-- ---- the background last: it makes one frame of a dim and a bright faint colour, and does not meet the
-- contract on both

module _ (last : ℕ → ℕ → ℕ → ℕ) where
  abbrev rule : Rule
  rule = ground_last last

  pub same-frame : frame_by rule bright ≡ frame_by rule dim
  unfolding small.frame_open
  same-frame = refl

  same_text : (t : List ℕ) → length t ≡ tables_len 1
      → printed_by rule first t (line bright) ≡ printed_by rule first t (line dim)
  unfolding small.line_open
  same_text t long = rw (eq-eqb _ _ long)

  of-host : (pictures : List ℕ) → length pictures ≡ 8 → frame_by rule pictures ≡ host_by rule pictures
  of-host pictures two = ap (framed_by rule) (sym (small.host-scene pictures two))

  -- one frame x that is promised of both
  pub dim-bright : {x p q : List ℕ} → p ≡ 100 ∷ 100 ∷ 100 ∷ 255 ∷ [] → q ≡ 101 ∷ 101 ∷ 101 ∷ 255 ∷ [] → x ≡ p → x ≡ q
      → ⊥
  dim-bright dims brights p q = not-both 0 (λ (z : 100 ≡ 101). omega arith) (p ∙ dims) (q ∙ brights)

  pub paint-ground-last : Paints dim (paint_by rule dim) → Paints bright (paint_by rule bright) → ⊥
  unfolding small.frame_open
  paint-ground-last m n =
      dim-bright (small.dim-promised).paint (small.bright-promised).paint (same-frame ∙ small.paints-is m)
      (small.paints-is n)

  pub frame-ground-last : Frames dim (frame_by rule dim) → Frames bright (frame_by rule bright) → ⊥
  frame-ground-last m n =
      dim-bright (small.dim-promised).frame (small.bright-promised).frame (same-frame ∙ small.frames-is m)
      (small.frames-is n)

  pub scan-ground-last : Scans dim (frame_by rule dim) → Scans bright (frame_by rule bright) → ⊥
  scan-ground-last m n =
      dim-bright (small.dim-promised).scan (small.bright-promised).scan (same-frame ∙ small.scans-is m)
      (small.scans-is n)

  pub host-ground-last : Hosts dim (host_by rule dim) → Hosts bright (host_by rule bright) → ⊥
  host-ground-last m n =
      dim-bright (small.dim-promised).host (small.bright-promised).host
      (same-frame ∙ of-host dim refl ∙ small.hosts-is m) (of-host bright refl ∙ small.hosts-is n)

  not-printed : (k : ℕ) → line_by rule k dim ≡ printed k dim → line_by rule k bright ≡ printed k bright → ⊥
  unfolding small.line_open over
  not-printed k p q =
      not-both 19 (λ (z : 52 ≡ 53). omega arith)
      (small.on-page k (same_text blank small.blank-long) ∙ p ∙ small.printed-dim k)
      (q ∙ small.printed-bright k)

  pub line-ground-last : Prints dim (line_by rule most_printed dim) → Prints bright (line_by rule most_printed bright) → ⊥
  line-ground-last m n = not-printed most_printed (small.prints-is dim m) (small.prints-is bright n)

  pub finish-ground-last : Finishes dim (line_by rule out_len dim) → Finishes bright (line_by rule out_len bright) → ⊥
  finish-ground-last m n =
      not-printed out_len (small.finishes-is dim m) (small.finishes-is bright n)

  pub feed-ground-last : Feeds dim (line_by rule out_len dim) → Feeds bright (line_by rule out_len bright) → ⊥
  feed-ground-last m n =
      not-printed out_len (small.feeds-is dim small.feed-dim m) (small.feeds-is bright small.feed-bright n)

-- ---- of mending, on an image that is refused

-- what meets the contract on it
mended : {list : List ℕ} {n : ℕ} {o : ℕ × List ℕ × List ℕ × ℕ} → Meets mend_call (image_of crooked, list, n) o
    → (o.0 ≡ done) × ((o.1 ≡ image_of straight) × (o.3 ≡ 2))
mended m =
    let q = quadruple-is.1 (tied-meets mend-tie m) in
    (q.0 ∙ crooked-mended.0, (q.1.0 ∙ crooked-mended.1.0, q.1.1.1 ∙ crooked-mended.1.1.1))

module _ (list : List ℕ) (n : ℕ) where
  -- whatever it leaves
  pub mend-down : (answer : ℕ) (image list' : List ℕ) (count : ℕ) → TurnsDown answer
      → Meets mend_call (image_of crooked, list, n) (answer, image, list', count) → ⊥
  mend-down answer image list' count down m = down (mended m).0

  pub mend-untouched : Meets mend_call (image_of crooked, list, n) (done, image_of crooked, list, n) → ⊥
  unfolding image_of little_bytes little_byte tab
  mend-untouched m = differ 24 (λ (z : 5 ≡ 4). omega arith) (mended m).1.0

  -- one image for both of two
  pub mend-fixed : (fixed list' list'' : List ℕ) (count count' : ℕ)
      → Meets mend_call (image_of crooked, list, n) (done, fixed, list', count)
      → Meets mend_call (image_of lone, list, n) (done, fixed, list'', count') → ⊥
  unfolding image_of little_bytes little_byte tab
  mend-fixed fixed list' list'' count count' m k =
      differ 40 (λ (z : 1 ≡ 0). omega arith)
      (sym (mended m).1.0 ∙ (quadruple-is.1 (tied-meets mend-tie k)).1.0 ∙ lone-left)

  -- one that switches every layer off, which a start takes too
  pub mend-all-off : (list' : List ℕ) (count : ℕ)
      → Meets mend_call (image_of crooked, list, n) (done, image_of (with_off (with_off crooked 0) 1), list', count) → ⊥
  unfolding image_of little_bytes little_byte tab with_off
  mend-all-off list' count m = differ 16 (λ (z : 0 ≡ 1). omega arith) (mended m).1.0

  -- a count of anything but the two words
  pub mend-miscounted : (image list' : List ℕ) (count : ℕ) → (count ≡ 2 → ⊥)
      → Meets mend_call (image_of crooked, list, n) (done, image, list', count) → ⊥
  mend-miscounted image list' count ne m = ne (mended m).1.1
