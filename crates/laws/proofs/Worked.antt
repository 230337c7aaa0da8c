-- The laws at work on screens of 2 by 1 pixels, and screens that break them where a hypothesis is
-- dropped, by computing. Assumes nothing.
use mathlib.Core.Path.{◌≡◌, refl, sym, ap, ◌∙◌}
use mathlib.Core.Bool.{true, false}
use mathlib.Core.Logic.{⊎_elim}
use mathlib.Core.List.{List, [], ◌∷◌, ◌++◌}
use Prim.Native.Nat.{ℕ, zero, suc, ◌≤◌, ◌<◌}
use native.Mathlib.Omega.{arith}
use borrow.Author.Tests.{ne_eqb, lt-ltb}
use lib.Dec.{eqb, ltb}
use lib.Ieee.{of_bits}
use lib.ListN.{length, replicate, length-append, length-replicate}
use lib.Seq.{get_or-append-add}
use Rattle.lists.specs.Choice.{pick, both}
use Rattle.lists.specs.Little.{little_at}
use Rattle.lists.specs.Zero.{zero_from}
use Rattle.lists.specs.Tab.{tab, each}
use Rattle.lists.specs.Runs.{run, sum_of, first_of}
use Rattle.lists.proofs.Choice.{same_or}
use Rattle.lists.proofs.First.{first-each}
use Rattle.mix.specs.Pixel.{channels}
use Rattle.mix.specs.Blend.{blend_of}
use Rattle.mix.specs.Fade.{fade_of, fade_at}
use Rattle.words.proofs.CheckLaws.{check-accepted}
use Rattle.river.specs.River.{byte_of}
use Rattle.words.specs.Fields.{shown_of, layer_of}
use Rattle.words.specs.Check.{reserved_at, screen_of, place_of, place_at, clash_of, clash_at, clash_below, check_of, Accepted}
use Rattle.words.specs.Check as check
use Rattle.words.specs.Pictures.{picture_len, picture_len_at, picture_start, pictures_len, start_at}
use Rattle.profiles.specs.declared.Profile.{Profile}
use Rattle.profiles.specs.Profile.{one_bit}
use Rattle.tables.specs.Geometry.{tables_len, bank_len, kind_at, kind_len}
use Rattle.draw.specs.Box.{box_after, box_of}
use Rattle.draw.specs.Drawing.{drawn_by, drawn_to, count_of, index_at}
use Rattle.frames.specs.Scene.{Scene}
use Rattle.frames.specs.Pixel.{bank_bytes, colour_index, graphics_at, buffer_of, picture_at, own_at, alpha_at, covers}
use Rattle.frames.specs.Pixel.{over_at}
use Rattle.frames.specs.Band.{layer_step, depth_step, band_by, band_byte, band_of}
use Rattle.frames.specs.Frame.{fill_byte, fill_of, frame_of}
use Rattle.frames.proofs.PixelLaws.{covers-covered}
use Rattle.words.specs.Change.{with_off, with_depth}
use Rattle.laws.specs.Painting.{Ready, IsLayer, OnScreen, channel_at, with_words, Neighbours, exchanged}
use Rattle.laws.specs.Painting.{OpaqueAt, OtherUnder, Clear, without, AreBytes, least_step}
use Rattle.laws.specs.Painting.{greatest_step, least_at, greatest_at, Between}
use Rattle.laws.specs.Worked.{dot, words, brown, red, apart, wide_apart, shared, lit, sand, ink, none, box_in}
use Rattle.laws.specs.Worked.{scene_on, beside, wide_beside, halves, covered, relaid, faded_at, relaid_at, veiled}
use Rattle.laws.specs.Worked.{flow_scene, drawn_scene}
use Rattle.words.proofs.ChangeLaws.{layer-other}
use Rattle.laws.proofs.Exchange.{exchange}
use Rattle.laws.proofs.Opaque.{opaque-under}
use Rattle.laws.proofs.Invisible.{invisible}
use Rattle.laws.proofs.Between.{between}

-- ---- what is unfolded to compute: the acceptance of words, a layer's alpha, a frame, a drawing

unfoldable accept_open : Unit {0}
unfolding check_of first_of reserved_at check.kind_at check.kind_of screen_of place_at place_of clash_below clash_at clash_of layer_of
    pictures_len picture_len_at picture_len sum_of
accept_open = tt

unfoldable alpha_open : Unit {0}
unfolding alpha_at own_at picture_at buffer_of start_at picture_start picture_len_at picture_len sum_of covers layer_of fade_of fade_at
alpha_open = tt

unfoldable frame_open : Unit {0}
unfolding alpha_open frame_of band_of fill_of fill_byte band_byte band_by depth_step layer_step over_at run tab each blend_of
    channel_at
frame_open = tt

unfoldable draw_open : Unit {0}
unfolding graphics_at colour_index bank_bytes kind_at kind_len index_at count_of zero_from drawn_to drawn_by box_of box_after
    little_at
draw_open = tt

-- with tables of zeros
ready_of : (s : Scene) → length s.words ≡ 52 → Accepted s.words → shown_of s.words ≡ true
    → length s.pictures ≡ pictures_len false s.words → length s.floats ≡ pictures_len true s.words
    → s.profile ≡ one_bit true → s.tables ≡ none → Ready s
ready_of s long accepted shown pictures floats one e =
    record {
      long = long;
      accepted = accepted;
      let_in = λ n h f. ap (λ (q : Profile). q.floats) one;
      shown = shown;
      tables = rw (one, e) (length-replicate {A = ℕ} (tables_len 1) 0);
      pictures = pictures;
      floats = floats;
    }

-- accepted, with right buffers, whatever the pixels
ready-apart : (p q : ℕ) → Ready (scene_on apart (sand p) (ink q))
unfolding accept_open
ready-apart p q = ready_of _ refl (check-accepted _ true refl) refl refl refl refl refl

ready-shared : (p q : ℕ) → Ready (scene_on shared (sand p) (ink q))
unfolding accept_open
ready-shared p q = ready_of _ refl (check-accepted _ true refl) refl refl refl refl refl

-- ---- split

-- band 0..1 and then 1..8 is the frame; the upper band first is another
pub split-worked : (frame_of halves ∷ band_of halves 1 8 (band_of halves 0 1 (fill_of shared))
    ∷ band_of halves 0 1 (band_of halves 1 8 (fill_of shared)) ∷ [])
    ≡ (54 ∷ 34 ∷ 26 ∷ 255 ∷ 16 ∷ 32 ∷ 48 ∷ 255 ∷ []) ∷ (54 ∷ 34 ∷ 26 ∷ 255 ∷ 16 ∷ 32 ∷ 48 ∷ 255 ∷ [])
    ∷ (104 ∷ 59 ∷ 38 ∷ 255 ∷ 16 ∷ 32 ∷ 48 ∷ 255 ∷ []) ∷ []
unfolding frame_open
split-worked = refl

-- ---- exchange

neighbours : Neighbours apart 0 1
unfolding layer_of
neighbours =
    record {
      low = record { number = omega arith; on = refl };
      high = record { number = omega arith; on = refl };
      under = omega arith;
      next = λ m l lo hi. omega arith;
      apart = λ x y p q.
          let k = covers-covered (layer_of apart 0) x y p in
          let h = covers-covered (layer_of apart 1) x y q in omega (arith, k.right, h.left);
    }

-- layers that share no pixel: the frame stays
pub exchange-worked : frame_of (with_words beside (exchanged apart 0 1)) ≡ frame_of beside
exchange-worked = (exchange beside 0 1 (ready-apart 128 128) neighbours).1

-- layers that share one: it does not
pub exchange-shared : (frame_of halves ∷ frame_of (with_words halves (exchanged shared 0 1)) ∷ [])
    ≡ (54 ∷ 34 ∷ 26 ∷ 255 ∷ 16 ∷ 32 ∷ 48 ∷ 255 ∷ []) ∷ (104 ∷ 59 ∷ 38 ∷ 255 ∷ 16 ∷ 32 ∷ 48 ∷ 255 ∷ []) ∷ []
unfolding frame_open exchanged with_depth
exchange-shared = refl

-- 1 where layer n is one of depth 2 to 4
is_between : List ℕ → ℕ → ℕ
is_between w n = pick (both (layer_of w n).on (both (ltb 1 (layer_of w n).depth) (ltb (layer_of w n).depth 5))) 1 0

gap : (m : ℕ) → IsLayer wide_apart m → 1 < (layer_of wide_apart m).depth → (layer_of wide_apart m).depth < 5 → ⊥
unfolding first_of layer_of is_between
gap m l lo hi =
    let z : is_between wide_apart m ≡ 0 = first-each 8 (is_between wide_apart) refl m l.number in
    let o : ◌≡◌ {A = ℕ} 1 0 = rw (l.on, lt-ltb _ _ lo, lt-ltb _ _ hi) at z in
    omega arith

wide-neighbours : Neighbours wide_apart 0 1
unfolding layer_of
wide-neighbours =
    record {
      low = record { number = omega arith; on = refl };
      high = record { number = omega arith; on = refl };
      under = omega arith;
      next = gap;
      apart = λ x y p q.
          let k = covers-covered (layer_of wide_apart 0) x y p in
          let h = covers-covered (layer_of wide_apart 1) x y q in omega (arith, k.right, h.left);
    }

ready-wide : (p q : ℕ) → Ready (scene_on wide_apart (sand p) (ink q))
unfolding accept_open
ready-wide p q = ready_of _ refl (check-accepted _ true refl) refl refl refl refl refl

-- layers with depths free between them: the one at depth 1 takes 5, the other 1, and the frame stays
pub exchange-gap : (exchanged wide_apart 0 1 ≡ words brown (dot 5 0) (dot 1 1))
    × (frame_of (scene_on (words brown (dot 5 0) (dot 1 1)) (sand 128) (ink 128)) ≡ frame_of wide_beside)
unfolding exchanged with_depth layer_of
exchange-gap = (refl, (exchange wide_beside 0 1 (ready-wide 128 128) wide-neighbours).1)

-- ---- opaque

-- another background, and other pixels and alphas of layer 0
ready-lit : (p q : ℕ) → Ready (scene_on lit (ink p) (ink q))
unfolding accept_open
ready-lit p q = ready_of _ refl (check-accepted _ true refl) refl refl refl refl refl

-- of the eight layers only layer 1 is at depth 1 or above
upper : (m : ℕ) → m < 8 → 1 ≤ (layer_of shared m).depth → m ≡ 1
unfolding first_of layer_of
upper m h d = ⊎_elim (λ (e : m ≡ 1). e) (λ (ne : m ≡ 1 → ⊥).
    let z : pick (eqb m 1) 0 (layer_of shared m).depth ≡ 0 =
    first-each 8 (λ n. pick (eqb n 1) 0 (layer_of shared n).depth) refl m h in
    let y : (layer_of shared m).depth ≡ 0 = rw (ne_eqb m 1 ne) at z in omega arith) (same_or m 1)

-- only the background's word differs
lit-layer : (m : ℕ) → layer_of lit m ≡ layer_of shared m
lit-layer m = layer-other shared 2 m red (λ j lo hi q. omega arith)

start-one : start_at shared 1 ≡ 4
unfolding start_at picture_start picture_len_at picture_len sum_of layer_of
start-one = refl

covered-buffer : buffer_of (covered 255) 1 ≡ sand 128 ++ ink 255
unfolding buffer_of layer_of
covered-buffer = refl

relaid-buffer : buffer_of (relaid 255) 1 ≡ ink 7 ++ ink 255
unfolding buffer_of layer_of
relaid-buffer = refl

other-under : OtherUnder (covered 255) (relaid 255) 1
other-under =
    record {
      profile = refl;
      frame = refl;
      size = refl;
      banks = refl;
      above = λ m h d. lit-layer m;
      under = λ m h d. rw (lit-layer m);
      tables = λ m kind h d. refl;
      pictures = λ m k h d lt. rw (upper m h d, start-one, relaid-buffer, covered-buffer)
          (get_or-append-add (ink 7) (ink 255) k 0 ∙ sym (get_or-append-add (sand 128) (ink 255) k 0));
    }

opaque-at : OpaqueAt (covered 255) 1 0 0
unfolding alpha_open
opaque-at = record { layer = record { number = omega arith; on = refl }; covering = refl; full = refl }

on-screen : (c : ℕ) → c < channels → OnScreen shared 0 0 c
on-screen c h = record { across = omega arith; down = omega arith; channel = h }

depth-one : (layer_of shared 1).depth ≡ 1
unfolding layer_of
depth-one = refl

-- under an alpha of 255 the pixel stays
pub opaque-worked : (c : ℕ) → c < channels → channel_at (relaid 255) 0 0 c ≡ channel_at (covered 255) 0 0 c
opaque-worked c h =
    opaque-under (covered 255) (relaid 255) 1 0 0 c (ready-shared 128 255) (ready-lit 7 255) opaque-at
    (rw depth-one other-under) (on-screen c h)

-- under 254 it does not
pub opaque-254 : (channel_at (covered 254) 0 0 0 ∷ channel_at (relaid 254) 0 0 0 ∷ []) ≡ 1 ∷ 2 ∷ []
unfolding frame_open
opaque-254 = refl

-- an alpha of 255 by a fade that has come to its end, of a pixel whose own is 0
pub faded-opaque : OpaqueAt (faded_at 4) 1 0 0
unfolding alpha_open
faded-opaque = record { layer = record { number = omega arith; on = refl }; covering = refl; full = refl }

-- at frame 4 the pixel is the same under another background and another layer 0; at frame 3 it is not
pub opaque-faded : (channel_at (faded_at 4) 0 0 0 ∷ channel_at (relaid_at 4) 0 0 0 ∷ channel_at (faded_at 3) 0 0 0
    ∷ channel_at (relaid_at 3) 0 0 0 ∷ [])
    ≡ 1 ∷ 1 ∷ 27 ∷ 61 ∷ []
unfolding frame_open
opaque-faded = refl

-- ---- invisible

-- tables with a box are as long as tables are
box-long : (colour : List ℕ) → length colour ≡ 4 → length (box_in colour) ≡ tables_len 1
unfolding tables_len bank_len
box-long colour four = simp (length-append, length-replicate) (omega arith)

clear : Clear (veiled 0) 0
unfolding alpha_open
clear v u hv hu = let a : u ≡ 0 = omega arith in let b : v ≡ 0 = omega arith in rw (a, b)

-- a layer of alpha 0 withdrawn: the frame stays, and layer 1's picture now begins where layer 0's did
pub invisible-worked : (frame_of (without (veiled 0) 0) ≡ frame_of (veiled 0))
    × ((without (veiled 0) 0).pictures ≡ ink 255)
unfolding without picture_start picture_len_at picture_len sum_of layer_of
invisible-worked = ((invisible (veiled 0) 0 (omega arith) (ready-apart 0 255) clear).1, refl)

-- one of alpha 1: it does not
pub invisible-1 : (channel_at (veiled 1) 0 0 0 ∷ channel_at (without (veiled 1) 0) 0 0 0 ∷ []) ≡ 17 ∷ 16 ∷ []
unfolding frame_open without with_off
invisible-1 = refl

-- a graphics layer whose colours are all clear, whatever it draws
no-colour : Clear (drawn_scene 0) 0
unfolding alpha_open draw_open tables_len bank_len
no-colour v u hv hu = let a : u ≡ 0 = omega arith in let b : v ≡ 0 = omega arith in rw (a, b)

ready-drawn : (alpha : ℕ) → Ready (drawn_scene alpha)
unfolding accept_open
ready-drawn alpha =
    record {
      long = refl;
      accepted = check-accepted _ true refl;
      let_in = λ n h f. refl;
      shown = refl;
      tables = box-long (sand alpha) refl;
      pictures = refl;
      floats = refl;
    }

-- withdrawn it leaves the frame; in a colour that is not clear it does not
pub invisible-graphics : (frame_of (without (drawn_scene 0) 0) ≡ frame_of (drawn_scene 0))
    × ((channel_at (drawn_scene 0) 0 0 0 ∷ channel_at (drawn_scene 255) 0 0 0 ∷ []) ≡ 16 ∷ 200 ∷ [])
unfolding frame_open draw_open tables_len bank_len
invisible-graphics = ((invisible (drawn_scene 0) 0 (omega arith) (ready-drawn 0) no-colour).1, refl)

-- a float layer of alpha 0: the frame stays, and the floats are without its picture
ready-flow : (alpha : ℕ) → Ready (flow_scene alpha)
unfolding accept_open
ready-flow alpha = ready_of _ refl (check-accepted _ true refl) refl refl refl refl refl

no_flow : Clear (flow_scene 0) 0
unfolding alpha_open byte_of of_bits
no_flow v u hv hu = let a : u ≡ 0 = omega arith in let b : v ≡ 0 = omega arith in rw (a, b)

pub invisible-floats : (frame_of (without (flow_scene 0) 0) ≡ frame_of (flow_scene 0))
    × (((without (flow_scene 0) 0).pictures ≡ ink 255) × ((without (flow_scene 0) 0).floats ≡ []))
unfolding without picture_start picture_len_at picture_len sum_of layer_of
invisible-floats = ((invisible (flow_scene 0) 0 (omega arith) (ready-flow 0) no_flow).1, (refl, refl))

-- opaque: it shows its floats, 0.5, 1 and 0, and not the bytes, which layer 1 shows from their first on
pub flow-shown : (channel_at (flow_scene 0x3f80_0000) 0 0 0 ∷ channel_at (flow_scene 0x3f80_0000) 0 0 1
    ∷ channel_at (flow_scene 0x3f80_0000) 0 0 2 ∷ channel_at (flow_scene 0x3f80_0000) 0 1 0 ∷ []) ≡ 128 ∷ 255 ∷ 0 ∷ 1 ∷ []
unfolding frame_open byte_of of_bits
flow-shown = refl

-- ---- between

-- one number more in front of bytes, and a pixel more
bytes-more : (p : ℕ) (l : List ℕ) → p < 256 → AreBytes l → AreBytes (p ∷ l)
bytes-more p l h b zero = h
bytes-more p l h b (suc i) = b i

bytes-pixel : (p q r a : ℕ) (l : List ℕ) → p < 256 → q < 256 → r < 256 → a < 256 → AreBytes l
    → AreBytes (p ∷ q ∷ r ∷ a ∷ l)
bytes-pixel p q r a l hp hq hr ha b =
    bytes-more p (q ∷ r ∷ a ∷ l) hp (bytes-more q (r ∷ a ∷ l) hq (bytes-more r (a ∷ l) hr (bytes-more a l ha b)))

bytes-zero : (n : ℕ) → AreBytes (replicate n 0)
bytes-zero zero i = omega arith
bytes-zero (suc n) i = bytes-more 0 (replicate n 0) (omega arith) (bytes-zero n) i

pub between-worked : Between beside (frame_of beside)
between-worked =
    between beside (ready-apart 128 128) (bytes-zero (tables_len 1))
    (bytes-pixel 200 100 50 128 (ink 128) (omega arith) (omega arith) (omega arith) (omega arith)
    (bytes-pixel 1 2 3 128 [] (omega arith) (omega arith) (omega arith) (omega arith) (λ i. omega arith)))

-- the three numbers, and those of an alpha of 300, which no byte is
pub between-300 : (least_at beside 0 0 0 ∷ channel_at beside 0 0 0 ∷ greatest_at beside 0 0 0
    ∷ channel_at (scene_on apart (sand 300) (ink 128)) 0 0 0 ∷ greatest_at (scene_on apart (sand 300) (ink 128)) 0 0 0 ∷ [])
    ≡ 16 ∷ 108 ∷ 200 ∷ 235 ∷ 200 ∷ []
unfolding frame_open least_at least_step greatest_at greatest_step
between-300 = refl
