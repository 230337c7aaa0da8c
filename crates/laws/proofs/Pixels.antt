-- Laws of one layer over a pixel, and of a frame by its pixels. Assumes nothing.
use mathlib.Core.Path.{◌≡◌, refl, sym, ap, ap₂, ◌∙◌}
use mathlib.Core.Bool.{Bool, true, false, not, true≢false}
use mathlib.Core.List.{List}
use Prim.Native.Nat.{ℕ, ◌+◌, ◌-◌, ◌*◌, ◌/◌, ◌%◌, ◌≤◌, ◌<◌}
use native.Mathlib.Nat.{mul_comm}
use native.Mathlib.Omega.{arith}
use borrow.Author.Tests.{ne_eqb, eq-eqb, le-leb}
use lib.Dec.{eqb}
use lib.Arith.{digits_div, digits_mod}
use lib.ListN.{length, get_or}
use Rattle.lists.specs.Choice.{pick, both}
use Rattle.lists.proofs.Choice.{pick-cong}
use Rattle.lists.proofs.Sum.{sum-cong}
use Rattle.lists.proofs.Tab.{length-tab, get_d-tab, get_d-each, tab-cong, each-cong}
use Rattle.answers.specs.Answers.{done}
use Rattle.mix.specs.Blend.{blend_of}
use Rattle.mix.proofs.BlendLaws.{blend_of-clear}
use Rattle.words.specs.declared.fields.Layer.{Layer}
use Rattle.words.specs.Fields.{shown_of, width_of, height_of, ground_of, layer_of}
use Rattle.words.specs.Pictures.{picture_len, picture_len_at, picture_start, pictures_len, start_at}
use Rattle.words.proofs.PictureLaws.{own-len}
use Rattle.words.specs.Check.{Accepted}
use Rattle.draw.specs.Drawing.{ended_of}
use Rattle.frames.specs.Scene.{Scene}
use Rattle.profiles.specs.Profile.{bits_of}
use Rattle.frames.specs.Pixel.{bank_bytes, colour_index, graphics_at, buffer_of, picture_at, own_at, faded_of}
use Rattle.frames.specs.Pixel.{alpha_at, covers, over_at}
use Rattle.frames.specs.Band.{pixel_at, band_byte, band_of, missing, mark_at}
use Rattle.frames.specs.Frame.{frame_len, paint_refusal, refusal_of, fill_byte, fill_of, frame_of}
use Rattle.lists.proofs.Digits.{row_room}
use Rattle.frames.proofs.PixelLaws.{Covered, covers-covered, covered-covers, over-inside, over-outside}
use Rattle.laws.specs.Painting.{Ready, OnScreen, channel_at, with_words, Clear}
use Rattle.laws.proofs.LayerLaws.{Alike, alike-kind, kinds-let}

-- ---- what is ready is painted

-- a band of such a scene over an output of the right length is not refused
pub ready-done : (s : Scene) (a b : ℕ) (out : List ℕ) → Ready s → a ≤ b → b ≤ 8 → length out ≡ frame_len s.words
    → refusal_of s a b out ≡ done
unfolding paint_refusal
ready-done s a b out r ab b8 lo =
    let acc = r.accepted in
    rw (
      le-leb a b ab,
      le-leb b 8 b8,
      ne_eqb (width_of s.words) 0 (λ q. omega (arith, acc.wide)),
      ne_eqb (height_of s.words) 0 (λ q. omega (arith, acc.tall)),
      eq-eqb _ _ lo,
      eq-eqb _ _ r.tables,
      eq-eqb _ _ r.pictures,
      eq-eqb _ _ r.floats,
    )

-- ---- where a layer's own pixels stand

-- a pixel of a frame layer lies among the numbers of its picture
pub picture-room : (w : List ℕ) (n u v c : ℕ) → (layer_of w n).on ≡ true → (layer_of w n).graphics ≡ false
    → u < (layer_of w n).width → v < (layer_of w n).height → c < 4
    → 4 * (v * (layer_of w n).width + u) + c < picture_len_at (layer_of w n).floats w n
picture-room w n u v c o g hu hv hc =
    omega (
      arith,
      own-len w n o g,
      row_room v (layer_of w n).height (layer_of w n).width hv,
      mul_comm (layer_of w n).width (layer_of w n).height,
    )

-- where it covers the screen's pixel (x, y), that is one of its own
pub across_lt : (l : Layer) (x y : ℕ) → covers l y x ≡ true → (x - l.x < l.width) × (y - l.y < l.height)
across_lt l x y e =
    let k = covers-covered l x y e in
    (omega (arith, k.left, k.right), omega (arith, k.top, k.bottom))

-- ---- one layer over a pixel

pub covers-not : (l : Layer) (x y : ℕ) → covers l y x ≡ false → Covered l y x → ⊥
covers-not l x y e c = true≢false (sym (covered-covers l x y c) ∙ e)

-- a layer with no alpha anywhere
pub over-clear : (s : Scene) (x y c n p : ℕ) → Clear s n → over_at s y x c n p ≡ p
over-clear s x y c n p h = go (covers (layer_of s.words n) y x) refl
  where
    go : (t : Bool) → covers (layer_of s.words n) y x ≡ t → over_at s y x c n p ≡ p
    go true e =
        let i = across_lt (layer_of s.words n) x y e in
        over-inside s x y c n p (covers-covered (layer_of s.words n) x y e)
        ∙ rw (h _ _ i.1 i.0) (blend_of-clear _ p)
    go false e = over-outside s x y c n p (covers-not (layer_of s.words n) x y e)

-- layers that differ in depth alone, with the same pixels, are the same over a pixel
module _ (s s' : Scene) (n : ℕ) (same : Alike (layer_of s'.words n) (layer_of s.words n)) (f : s'.frame ≡ s.frame)
    (own : (u v c : ℕ) → u < (layer_of s.words n).width → v < (layer_of s.words n).height → c < 4
    → own_at s' n v u c ≡ own_at s n v u c) where
  alpha-same : (u v : ℕ) → u < (layer_of s.words n).width → v < (layer_of s.words n).height
      → alpha_at s' n v u ≡ alpha_at s n v u
  unfolding alpha_at
  alpha-same u v hu hv =
      let o : own_at s' n v u 3 ≡ own_at s n v u 3 = own u v 3 hu hv (omega arith) in
      rw (o, f) (ap (λ (l : Layer). pick l.global (faded_of s.frame l) (own_at s n v u 3)) same)

  covers-same : (x y : ℕ) → covers (layer_of s'.words n) y x ≡ covers (layer_of s.words n) y x
  unfolding covers
  covers-same x y = ap (λ (l : Layer). covers l y x) same

  pub over-same : (x y c p : ℕ) → c < 4 → over_at s' y x c n p ≡ over_at s y x c n p
  unfolding over_at
  over-same x y c p hc =
      let ex : (layer_of s'.words n).x ≡ (layer_of s.words n).x = ap (λ (l : Layer). l.x) same in
      let ey : (layer_of s'.words n).y ≡ (layer_of s.words n).y = ap (λ (l : Layer). l.y) same in
      rw (covers-same x y, ex, ey) (pick-cong (covers (layer_of s.words n) y x)
      (λ t. let i = across_lt (layer_of s.words n) x y t in
      ap₂ (λ (a o : ℕ). blend_of a o p) (alpha-same _ _ i.0 i.1) (own _ _ c i.0 i.1 hc)) (λ f. refl))

-- ---- words whose layers differ in depth alone

module _ (s : Scene) (w' : List ℕ) (alike : (n : ℕ) → Alike (layer_of w' n) (layer_of s.words n))
    (banks : get_or w' 3 0 ≡ get_or s.words 3 0) where
  picture_len-alike : (k : Bool) (n : ℕ) → picture_len_at k w' n ≡ picture_len_at k s.words n
  unfolding picture_len_at picture_len
  picture_len-alike k n = ap (picture_len k) (alike n)

  floats_alike : (n : ℕ) → (layer_of w' n).floats ≡ (layer_of s.words n).floats
  floats_alike n = (alike-kind (layer_of w' n) (layer_of s.words n) (alike n)).floats

  start-alike : (n : ℕ) → start_at w' n ≡ start_at s.words n
  unfolding start_at picture_start
  start-alike n = rw (floats_alike n) (sum-cong n _ _ (λ m h. picture_len-alike (layer_of s.words n).floats m))

  pictures_len-alike : (k : Bool) → pictures_len k w' ≡ pictures_len k s.words
  unfolding pictures_len
  pictures_len-alike k = sum-cong 8 _ _ (λ m h. picture_len-alike k m)

  buffer-alike : (n : ℕ) → buffer_of (with_words s w') n ≡ buffer_of s n
  unfolding buffer_of
  buffer-alike n = rw (floats_alike n)

  pub ready-alike : Ready s → length w' ≡ 52 → Accepted w' → get_or w' 0 0 ≡ get_or s.words 0 0 → Ready (with_words s w')
  ready-alike r l a e =
      record {
        long = l;
        accepted = a;
        let_in =
            kinds-let s.profile.floats s.words w' (λ n. alike-kind (layer_of w' n) (layer_of s.words n) (alike n))
            r.let_in;
        shown = rw e r.shown;
        tables = r.tables;
        pictures = r.pictures ∙ sym (pictures_len-alike false);
        floats = r.floats ∙ sym (pictures_len-alike true);
      }

  bank_bytes-alike : (tables : List ℕ) (kind n : ℕ) → bank_bytes (bits_of s.profile) w' tables n kind
      ≡ bank_bytes (bits_of s.profile) s.words tables n kind
  unfolding bank_bytes
  bank_bytes-alike tables kind n = rw banks

  pub own-alike : (n u v c : ℕ) → own_at (with_words s w') n v u c ≡ own_at s n v u c
  unfolding own_at graphics_at colour_index picture_at
  own-alike n u v c =
      rw (
        start-alike n,
        buffer-alike n,
        bank_bytes-alike s.tables 0 n,
        bank_bytes-alike s.tables 1 n,
        bank_bytes-alike s.tables 2 n,
        bank_bytes-alike s.tables 3 n,
      )
      (ap (λ (l : Layer). pick l.graphics (graphics_at (bits_of s.profile) s.words s.tables n v u c)
      (get_or (buffer_of s n) (start_at s.words n + (4 * (v * l.width + u) + c)) 0)) (alike n))

  pub over-alike : (x y c n p : ℕ) → c < 4 → over_at (with_words s w') y x c n p ≡ over_at s y x c n p
  over-alike x y c n p hc =
      over-same s (with_words s w') n (alike n) refl (λ u v k hu hv hk. own-alike n u v k) x y c p hc

  missing-alike : (n : ℕ) → missing (with_words s w') n ≡ missing s n
  unfolding missing
  missing-alike n =
      rw (bank_bytes-alike s.tables 0 n)
      (ap (λ (l : Layer). both l.graphics (not (ended_of (bank_bytes (bits_of s.profile) s.words s.tables n 0)))) (alike n))

  pub mark-alike : (n e : ℕ) → mark_at (with_words s w') n e ≡ mark_at s n e
  unfolding mark_at
  mark-alike n e = rw (missing-alike n)

-- ---- a frame by its pixels

-- frames are the same where every channel is, on a screen of one size and background
module _ (s s' : Scene) (first : (k : ℕ) → k < 3 → get_or s'.words k 0 ≡ get_or s.words k 0)
    (h : (x y c p : ℕ) → c < 4 → pixel_at s' y x c 0 8 p ≡ pixel_at s y x c 0 8 p) where
  size : get_or s'.words 1 0 ≡ get_or s.words 1 0
  size = first 1 (omega arith)

  fill_byte-same : (i : ℕ) → fill_byte s'.words i ≡ fill_byte s.words i
  unfolding fill_byte
  fill_byte-same i = rw (first 2 (omega arith))

  fill_of-same : fill_of s'.words ≡ fill_of s.words
  unfolding fill_of
  fill_of-same = rw size (tab-cong _ _ _ (λ i lt. fill_byte-same i))

  band_byte-same : (i p : ℕ) → band_byte s' 0 8 i p ≡ band_byte s 0 8 i p
  unfolding band_byte
  band_byte-same i p =
      let m : i % 4 < 4 = omega arith in
      rw (size, h (i / 4 % width_of s.words) (i / 4 / width_of s.words) (i % 4) p m)

  pub frame_same : frame_of s' ≡ frame_of s
  unfolding frame_of band_of
  frame_same =
      rw (
        fill_of-same,
        first 0 (omega arith),
        each-cong (band_byte s' 0 8) (band_byte s 0 8) (fill_of s.words) band_byte-same,
      )

-- the frame's byte of channel c of the pixel (x, y)
module _ (s : Scene) (shown : shown_of s.words ≡ true) (x y c : ℕ) (on : OnScreen s.words y x c) where
  abbrev W : ℕ
  W = width_of s.words

  number : (4 * (y * W + x) + c) / 4 ≡ y * W + x
  number = omega (arith, on.channel)

  at-column : (4 * (y * W + x) + c) / 4 % W ≡ x
  at-column = rw number (digits_mod y on.across)

  at_row : (4 * (y * W + x) + c) / 4 / W ≡ y
  at_row = rw number (digits_div y on.across)

  at-channel : (4 * (y * W + x) + c) % 4 ≡ c
  at-channel = omega (arith, on.channel)

  in_frame : 4 * (y * W + x) + c < frame_len s.words
  in_frame =
      omega (
        arith,
        row_room y (height_of s.words) W on.down,
        mul_comm W (height_of s.words),
        on.across,
        on.channel,
      )

  pub channel_at-is : channel_at s y x c ≡ pixel_at s y x c 0 8 (ground_of s.words c)
  unfolding channel_at frame_of band_of fill_of band_byte fill_byte
  channel_at-is =
      let n : ℕ = frame_len s.words in
      let long : length (fill_of s.words) ≡ n = length-tab n (fill_byte s.words) in
      let three : eqb c 3 ≡ false = ne_eqb c 3 (λ q. omega (arith, on.channel)) in
      let i : ℕ = 4 * (y * W + x) + c in
      rw (
        shown,
        get_d-each (band_byte s 0 8) (fill_of s.words) i (omega (arith, in_frame)),
        get_d-tab n (fill_byte s.words) i in_frame,
        at-column,
        at_row,
        at-channel,
        three,
      )
