-- A run blended over its part of a line is the layer over that line. Assumes nothing.
use mathlib.Core.Path.{◌≡◌, refl, sym, ap, ◌∙◌}
use mathlib.Core.Bool.{Bool, true, false, true≢false}
use mathlib.Core.Logic.{◌⊎◌, inl, inr, ⊎_elim}
use mathlib.Core.List.{List, ◌++◌}
use Prim.Native.Nat.{ℕ, ◌+◌, ◌-◌, ◌*◌, ◌/◌, ◌%◌, ◌≤◌, ◌<◌}
use native.Mathlib.Omega.{arith}
use borrow.Author.Tests.{le-leb, lt-ltb}
use lib.Dec.{eqb}
use lib.Ieee.{Float}
use lib.ListN.{length, get_or, take, drop, take-append-drop, drop_of_length-le}
use Rattle.lists.specs.Choice.{pick, both}
use Rattle.lists.specs.Tab.{each}
use Rattle.lists.specs.Steps.{through}
use Rattle.lists.proofs.Choice.{pick-cong}
use Rattle.lists.proofs.Tab.{each_part, each-id, each-cong-below, each-then, get_d_part}
use Rattle.lists.proofs.Steps.{through-none, through-id, through-cong, through-append, through-next, through-keep}
use Rattle.mix.specs.Blend.{blend_of}
use Rattle.words.specs.declared.fields.Layer.{Layer}
use Rattle.words.specs.Fields.{width_of, layer_of}
use Rattle.colours.specs.Rows.{colour_row}
use Rattle.span.specs.Span.{over_byte}
use Rattle.river.specs.River.{bytes_from}
use Rattle.river.proofs.RiverLaws.{bytes-part}
use Rattle.plan.specs.declared.Step.{Step}
use Rattle.words.specs.Order.{order_of, within, band_layers}
use Rattle.frames.specs.Scene.{Scene}
use Rattle.frames.proofs.PixelLaws.{Covered, over-outside, over-inside}
use Rattle.frames.specs.Pixel.{buffer_of, picture_at, own_at, faded_of, alpha_at, spans, over_at}
use Rattle.frames.specs.Band.{band_by}
use Rattle.plan.specs.declared.Part.{Part}
use Rattle.plan.specs.Engine.Plan.{left_end, wide_of, reaches, taken, part_layers, OfLayer}
use Rattle.scanline.specs.Engine.Lines.{OnRow, row_start, drawn_indexes, line_byte, line_to, line_from, band_line, Shows}
use Rattle.scanline.specs.Engine.Lines.{Draws, Flows, OfLine, LaidOver, Over}
use Rattle.plan.proofs.PartLaws.{part-is}
use Rattle.scanline.proofs.DrawLaws.{row-drawn}
use Rattle.frames.proofs.BandLaws.{band-through}

-- ---- a pixel, and a line, that the layer does not reach

byte-beside : (s : Scene) (y n i p : ℕ) → (Covered (layer_of s.words n) y (i / 4) → ⊥) → line_byte s y n i p ≡ p
unfolding line_byte
byte-beside s y n i p out = go (eqb (i % 4) 3)
  where
    go : (t : Bool) → pick t p (over_at s y (i / 4) (i % 4) n p) ≡ p
    go true = refl
    go false = over-outside s (i / 4) y (i % 4) n p out

pub line-outside : (s : Scene) (y n : ℕ) (line : List ℕ) → ((x : ℕ) → Covered (layer_of s.words n) y x → ⊥)
    → line ≡ each (line_byte s y n) line
line-outside s y n line out = each-id _ line (λ i p. byte-beside s y n i p (out (i / 4)))

-- ---- one that it reaches: the run holds the layer's pixels of that row

module _ (s : Scene) (y n left wide : ℕ) (src : List ℕ)
    (at_left : left ≡ left_end (width_of s.words) (layer_of s.words n))
    (as_wide : wide ≡ wide_of (width_of s.words) (layer_of s.words n))
    (top : (layer_of s.words n).y ≤ y) (bottom : y < (layer_of s.words n).y + (layer_of s.words n).height)
    (own : (u c : ℕ) → u < wide → c < 4 → get_or src (4 * u + c) 0 ≡ own_at s n (y - (layer_of s.words n).y) u c) where
  -- the alpha and the channel that the run gives at its pixel u
  alpha-is : (u : ℕ) → u < wide
      → alpha_at s n (y - (layer_of s.words n).y) u
      ≡ pick (layer_of s.words n).global (faded_of s.frame (layer_of s.words n)) (get_or src (4 * u + 3) 0)
  unfolding alpha_at
  alpha-is u h =
      ap (pick (layer_of s.words n).global (faded_of s.frame (layer_of s.words n)))
      (sym (own u 3 h (omega arith)))

  pixel-is : (u c p : ℕ) → u < wide → c < 4
      → over_at s y (left + u) c n p
      ≡ blend_of (pick (layer_of s.words n).global (faded_of s.frame (layer_of s.words n))
      (get_or src (4 * u + 3) 0)) (get_or src (4 * u + c) 0) p
  pixel-is u c p h hc =
      let q : left + u - (layer_of s.words n).x ≡ u = omega arith in
      over-inside s (left + u) y c n p (record { left = omega arith; right = omega arith; top = top; bottom = bottom })
      ∙ rw (q, alpha-is u h, own u c h hc)

  byte-is : (i p : ℕ) → i < 4 * wide
      → line_byte s y n (4 * left + i) p
      ≡ over_byte src (layer_of s.words n).global (faded_of s.frame (layer_of s.words n)) i p
  unfolding line_byte over_byte
  byte-is i p h =
      let q : (4 * left + i) % 4 ≡ i % 4 = omega arith in
      let r : (4 * left + i) / 4 ≡ left + i / 4 = omega arith in
      let z : 4 * (i / 4) + i % 4 ≡ i = omega arith in
      rw (q, r)
      (pick-cong (eqb (i % 4) 3) (λ t. refl)
      (λ t. pixel-is (i / 4) (i % 4) p (omega arith) (omega arith)
      ∙ ap (λ (j : ℕ). blend_of
      (pick (layer_of s.words n).global (faded_of s.frame (layer_of s.words n)) (get_or src (4 * (i / 4) + 3) 0))
      (get_or src j 0) p) z))

  byte-outside : (i p : ℕ) → i < 4 * width_of s.words → (i < 4 * left) ⊎ (4 * left + 4 * wide ≤ i)
      → line_byte s y n i p ≡ p
  byte-outside i p h o = byte-beside s y n i p (λ k. ⊎_elim (λ lt. beside k lt) (λ ge. behind k ge) o)
    where
      beside : Covered (layer_of s.words n) y (i / 4) → i < 4 * left → ⊥
      beside k lt = omega (arith, k.left)

      behind : Covered (layer_of s.words n) y (i / 4) → 4 * left + 4 * wide ≤ i → ⊥
      behind k ge = omega (arith, k.right)

  pub layer-over : (line part : List ℕ) → length line ≡ 4 * width_of s.words
      → part ≡ each (over_byte src (layer_of s.words n).global (faded_of s.frame (layer_of s.words n)))
      (take (4 * wide) (drop (4 * left) line))
      → take (4 * left) line ++ (part ++ drop (4 * wide) (drop (4 * left) line)) ≡ each (line_byte s y n) line
  layer-over line part long e =
      each_part (line_byte s y n) _ line part (4 * left) (4 * wide) (omega arith) e byte-is
      (λ i p lt. byte-outside i p (omega arith) (inl lt))
      (λ i p ge lt. byte-outside i p (omega arith) (inr ge))

  -- a layer that takes up the whole line
  pub layer-whole : (line part : List ℕ) → length line ≡ 4 * width_of s.words → 4 * wide ≡ length line
      → part ≡ each (over_byte src (layer_of s.words n).global (faded_of s.frame (layer_of s.words n))) line
      → part ≡ each (line_byte s y n) line
  layer-whole line part long whole e =
      e ∙ each-cong-below _ _ line (λ i h.
      let q : 4 * left + i ≡ i = omega arith in
      sym (byte-is i (get_or line i 0) (omega arith)) ∙ ap (λ (j : ℕ). line_byte s y n j (get_or line i 0)) q)

-- ---- the same of a step

module _ (s : Scene) (y : ℕ) (t : Step) (m : OfLayer s t) where
  -- ---- the run that the code blends is the layer's row

  -- of a frame layer: so many bytes of its picture's buffer from the row's start on
  frame-own : t.layer.graphics ≡ false → (u c : ℕ)
      → get_or (buffer_of s t.number) (row_start t y + (4 * u + c)) 0 ≡ own_at s t.number (y - t.layer.y) u c
  unfolding own_at picture_at
  frame-own g u c =
      let f : (layer_of s.words t.number).graphics ≡ false = rw m.layer at g in
      let q : row_start t y + (4 * u + c) ≡ t.start +
      (4 * ((y - t.layer.y) * t.layer.width + u) + c) = omega arith in
      ap (λ (i : ℕ). get_or (buffer_of s t.number) i 0) q ∙ rw (f, ← m.layer, m.start)

  -- among the pictures, with the row's start in a variable
  pub picture-own : (pictures : List ℕ) (from : ℕ) → Shows pictures s → from ≡ row_start t y → t.layer.graphics ≡ false
      → t.layer.floats ≡ false → (u c : ℕ) → u < t.wide → c < 4
      → get_or (take (from + 4 * t.wide - from) (drop from pictures)) (4 * u + c) 0
      ≡ own_at s t.number (y - t.layer.y) u c
  unfolding buffer_of
  picture-own pictures from same e g k u c h hc =
      let f : (layer_of s.words t.number).floats ≡ false = rw m.layer at k in
      rw (part-is pictures from (4 * t.wide), ← same, e)
      (get_d_part s.pictures _ (4 * t.wide) (4 * u + c) (omega arith) ∙ rw f at (frame-own g u c))

  -- among the floats, as bytes
  pub float_own : (floats : List Float) (from : ℕ) (row : List ℕ) → Flows floats s → from ≡ row_start t y
      → t.layer.graphics ≡ false → t.layer.floats ≡ true
      → row ≡ bytes_from (take (from + 4 * t.wide - from) (drop from floats))
      → (u c : ℕ) → u < t.wide → c < 4 → get_or row (4 * u + c) 0 ≡ own_at s t.number (y - t.layer.y) u c
  unfolding buffer_of
  float_own floats from row same e g k r u c h hc =
      let f : (layer_of s.words t.number).floats ≡ true = rw m.layer at k in
      let n : ℕ = row_start t y + 4 * t.wide - row_start t y in
      rw (r, ← same, e, bytes-part s.floats (row_start t y) n, part-is (bytes_from s.floats) (row_start t y) (4 * t.wide))
      (get_d_part (bytes_from s.floats) _ (4 * t.wide) (4 * u + c) (omega arith) ∙ rw f at (frame-own g u c))

  -- of a graphics layer: the colour indexes that were drawn, through its colours
  pub graphics-own : (tables : List ℕ) (pixels : ℕ) (indexes : List ℕ) → Draws tables s → t.layer.graphics ≡ true
      → indexes ≡ drawn_indexes tables t (y - t.layer.y) pixels → pixels ≡ t.wide
      → (u c : ℕ) → u < t.wide → c < 4
      → get_or (colour_row indexes t.palette) (4 * u + c) 0 ≡ own_at s t.number (y - t.layer.y) u c
  unfolding own_at
  graphics-own tables pixels indexes same g d q u c h hc =
      let f : (layer_of s.words t.number).graphics ≡ true = rw m.layer at g in
      rw f (row-drawn s t m tables _ pixels indexes same d u c (omega arith) hc)

  -- ---- such a run over its part of the line is the layer over the line

  module _ (r : OnRow t y) (src : List ℕ)
      (own : (u c : ℕ) → u < t.wide → c < 4 → get_or src (4 * u + c) 0 ≡ own_at s t.number (y - t.layer.y) u c) where
    own-layer : (u c : ℕ) → u < t.wide → c < 4
        → get_or src (4 * u + c) 0 ≡ own_at s t.number (y - (layer_of s.words t.number).y) u c
    own-layer u c h hc = own u c h hc ∙ ap (λ (l : Layer). own_at s t.number (y - l.y) u c) m.layer

    -- as the borrow checker writes the part
    pub step-over : (line part : List ℕ) → OfLine s line
        → part ≡ each (over_byte src t.layer.global t.alpha)
        (take (4 * t.left + 4 * t.wide - 4 * t.left) (drop (4 * t.left) line))
        → take (4 * t.left) line ++ (part ++ drop (4 * t.left + 4 * t.wide - 4 * t.left) (drop (4 * t.left) line))
        ≡ each (line_byte s y t.number) line
    step-over line part long e =
        let q : 4 * t.left + 4 * t.wide - 4 * t.left ≡ 4 * t.wide = omega arith in
        rw q
        (layer-over s y t.number t.left t.wide src m.left m.wide (rw m.layer at r.top)
        (rw m.layer at r.bottom)
        own-layer line part long (rw (q, m.layer, m.alpha) at e))

    -- where it takes up the whole line
    pub step-whole : (line part : List ℕ) → OfLine s line → 4 * t.wide ≡ length line
        → part ≡ each (over_byte src t.layer.global t.alpha) line → part ≡ each (line_byte s y t.number) line
    step-whole line part long whole e =
        layer-whole s y t.number t.left t.wide src m.left m.wide (rw m.layer at r.top)
        (rw m.layer at r.bottom)
        own-layer line part long whole (rw (m.layer, m.alpha) at e)

  -- ---- a line that the layer does not reach

  pub step-beside : (line : List ℕ) → spans t.layer.y t.layer.height y ≡ false
      → line ≡ each (line_byte s y t.number) line
  step-beside line h = line-outside s y t.number line (λ x c. true≢false (sym (reached x c) ∙ (rw m.layer at h)))
    where
      reached : (x : ℕ) (c : Covered (layer_of s.words t.number) y x)
          → spans (layer_of s.words t.number).y (layer_of s.words t.number).height y ≡ true
      reached x c = rw (le-leb _ _ c.top, lt-ltb _ _ c.bottom)

-- ---- all layers of a band

pub line-band : (s : Scene) (a b y i p : ℕ) → a ≤ b → b ≤ 8
    → through (λ n q. line_byte s y n i q) (band_layers s.words a b) p ≡ band_line s a b y i p
unfolding line_byte band_line
line-band s a b y i p ab b8 = go (eqb (i % 4) 3)
  where
    go : (t : Bool) → through (λ n q. pick t q (over_at s y (i / 4) (i % 4) n q)) (band_layers s.words a b) p
        ≡ pick t p (band_by s.words (over_at s y (i / 4) (i % 4)) a b p)
    go true = through-id _ (band_layers s.words a b) p (λ n q. refl)
    go false = band-through s.words (over_at s y (i / 4) (i % 4)) a b p ab b8

-- ---- all layers of a part, on one of its lines: the band's others do not reach it

module _ (s : Scene) (part : Part) (y : ℕ) (from : part.first ≤ y) (to : y < part.first + part.count) where
  byte-reached : (n i q : ℕ) → reaches part.first part.count (layer_of s.words n) ≡ false → line_byte s y n i q ≡ q
  byte-reached n i q e =
      byte-beside s y n i q (λ k.
      let l = layer_of s.words n in
      let t : reaches part.first part.count l ≡ true = rw (
        lt-ltb l.y (part.first + part.count) (omega (arith, k.top)),
        lt-ltb part.first (l.y + l.height) (omega (arith, k.bottom)),
      ) in
      true≢false (sym t ∙ e))

  step-taken : (n i q : ℕ)
      → pick (taken part (layer_of s.words n)) (line_byte s y n i q) q
      ≡ pick (within part.low part.high (layer_of s.words n)) (line_byte s y n i q) q
  step-taken n i q = go (within part.low part.high (layer_of s.words n))
      (reaches part.first part.count (layer_of s.words n)) (byte-reached n i q)
    where
      go : (t r : Bool) → (r ≡ false → line_byte s y n i q ≡ q)
          → pick (both t r) (line_byte s y n i q) q ≡ pick t (line_byte s y n i q) q
      go true true f = refl
      go true false f = sym (f refl)
      go false r f = refl

  line-part : (i p : ℕ) → part.low ≤ part.high → part.high ≤ 8
      → through (λ n q. line_byte s y n i q) (part_layers s.words part) p ≡ band_line s part.low part.high y i p
  unfolding part_layers band_layers
  line-part i p ab b8 =
      through-keep (λ n. taken part (layer_of s.words n)) (λ n q. line_byte s y n i q) (order_of s.words) p
      ∙ through-cong _ _ (order_of s.words) p (λ n q. step-taken n i q)
      ∙ sym (through-keep (λ n. within part.low part.high (layer_of s.words n)) (λ n q. line_byte s y n i q)
      (order_of s.words) p)
      ∙ line-band s part.low part.high y i p ab b8

  -- the first k and then the others
  pub line-all : (k : ℕ) (line line' line₀ : List ℕ) → part.low ≤ part.high → part.high ≤ 8
      → line ≡ each (line_to s y (part_layers s.words part) k) line₀
      → line' ≡ each (line_from s y (part_layers s.words part) k) line
      → line' ≡ each (band_line s part.low part.high y) line₀
  unfolding line_to line_from
  line-all k line line' line₀ ab b8 e f =
      let l = part_layers s.words part in
      each-then (line_to s y l k) (line_from s y l k) _ line₀ e f
      (λ i p. sym (line-part i p ab b8)
      ∙ ap (λ (m : List ℕ). through (λ n q. line_byte s y n i q) m p) (sym (take-append-drop k l))
      ∙ through-append (λ n q. line_byte s y n i q) (take k l) (drop k l) p)

module _ (s : Scene) (y : ℕ) where
  pub line-none : (l line : List ℕ) → line ≡ each (line_to s y l 0) line
  unfolding line_to
  line-none l line = each-id _ line (λ i p. through-none _ p)

  pub line-next : (l line line' line₀ : List ℕ) (k n : ℕ) → k < length l → n ≡ get_or l k 0
      → line ≡ each (line_to s y l k) line₀ → line' ≡ each (line_byte s y n) line
      → line' ≡ each (line_to s y l (k + 1)) line₀
  unfolding line_to
  line-next l line line' line₀ k n h q e f =
      each-then (line_to s y l k) (line_byte s y n) _ line₀ e f
      (λ i p. through-next (λ n q. line_byte s y n i q) l k p h
      ∙ ap (λ (m : ℕ). line_byte s y m i (line_to s y l k i p)) (sym q))

  -- where no layer is left
  pub line-rest : (l line : List ℕ) (k : ℕ) → length l ≤ k → line ≡ each (line_from s y l k) line
  unfolding line_from
  line-rest l line k h = each-id _ line (λ i p. rw (drop_of_length-le l {i = k} h) (through-none _ p))

-- ---- a row that lies over its part of a line, of whatever scenes it is: the layer lies over the line

pub laid-line : (Of : Scene → Type 0) (t : Step) (y : ℕ) (line part : List ℕ) → OnRow t y
    → LaidOver Of t y (take (4 * t.left + 4 * t.wide - 4 * t.left) (drop (4 * t.left) line)) part
    → Over Of t y line
    (take (4 * t.left) line ++ (part ++ drop (4 * t.left + 4 * t.wide - 4 * t.left) (drop (4 * t.left) line)))
laid-line Of t y line part r laid =
    record { over = λ s same long m. step-over s y t m r laid.row (laid.made.own s same m) line part long laid.over }
