-- "each channel lies between the least and greatest of the background's and the covering layers'
-- there". Assumes nothing.
use mathlib.Core.Path.{◌≡◌}
use mathlib.Core.Bool.{Bool, true, false}
use mathlib.Core.Logic.{⊎_elim}
use mathlib.Core.List.{List}
use Prim.Native.Nat.{ℕ, ◌+◌, ◌*◌, ◌≤◌, ◌<◌}
use native.Mathlib.Omega.{arith}
use lib.Ieee.{nan}
use lib.ListN.{get_or, take, drop, length-take, get_or-eq_default}
use Rattle.lists.specs.Choice.{choose}
use Rattle.lists.proofs.Choice.{split, pick-keeps}
use Rattle.lists.proofs.Run.{run-keeps, run-after}
use Rattle.lists.proofs.Tab.{get_d_part}
use Rattle.mix.proofs.BlendLaws.{blend_of-le, blend_of-ge}
use Rattle.mix.proofs.FadeLaws.{fade_of-le}
use Rattle.river.specs.River.{bytes_from}
use Rattle.river.proofs.RiverLaws.{byte-lt, bytes-at}
use Rattle.words.specs.Fields.{ground_of, layer_of}
use Rattle.profiles.specs.Profile.{bits_of}
use Rattle.tables.specs.Geometry.{colour_len, kind_len}
use Rattle.tables.specs.Selection.{active_at}
use Rattle.frames.specs.Scene.{Scene}
use Rattle.frames.specs.Pixel.{bank_bytes, colour_index, graphics_at, buffer_of, picture_at, own_at, alpha_at, covers}
use Rattle.frames.specs.Pixel.{over_at}
use Rattle.frames.specs.Band.{pixel_at}
use Rattle.frames.specs.Frame.{frame_of}
use Rattle.laws.specs.Painting.{Ready, OnScreen, channel_at, own_over, AreBytes, shows, least_step}
use Rattle.laws.specs.Painting.{greatest_step, least_at, greatest_at, Between}
use Rattle.laws.proofs.LayerLaws.{value-le, target-le}
use Rattle.laws.proofs.Bands.{band_by-keeps}
use Rattle.laws.proofs.Pixels.{channel_at-is}

byte_le : (l : List ℕ) → AreBytes l → (i : ℕ) → get_or l i 0 ≤ 255
byte_le l b i = omega (arith, b i)

-- a part of a list of bytes is one
part-le : (l : List ℕ) (o n i : ℕ) → AreBytes l → get_or (take n (drop o l)) i 0 ≤ 255
part-le l o n i b = ⊎_elim
    (λ (lt : i < n). rw (get_d_part l o n i lt) (byte_le l b (o + i)))
    (λ (ge : n ≤ i).
    rw (get_or-eq_default (take n (drop o l)) 0 {n = i} (omega (arith, length-take n (drop o l)))) (omega arith))
    (split i n)

module _ (s : Scene) (tables : AreBytes s.tables) (pictures : AreBytes s.pictures) where
  -- ---- alphas and channels are bytes

  graphics-le : (n u v c : ℕ) → graphics_at (bits_of s.profile) s.words s.tables n v u c ≤ 255
  unfolding graphics_at bank_bytes
  graphics-le n u v c =
      part-le s.tables (active_at (bits_of s.profile) s.words n 1) (kind_len (bits_of s.profile) 1)
      (colour_len * colour_index (bits_of s.profile) s.words s.tables n v u + c) tables

  -- of floats by what a byte of one is
  buffer-le : (n i : ℕ) → get_or (buffer_of s n) i 0 ≤ 255
  unfolding buffer_of
  buffer-le n i = go (layer_of s.words n).floats
    where
      go : (t : Bool) → get_or (choose t (bytes_from s.floats) s.pictures) i 0 ≤ 255
      go true = rw (bytes-at s.floats i) (omega (arith, byte-lt (get_or s.floats i nan)))
      go false = byte_le s.pictures pictures i

  own-le : (n u v c : ℕ) → own_at s n v u c ≤ 255
  unfolding own_at picture_at
  own-le n u v c =
      pick-keeps (λ (z : ℕ). z ≤ 255) (layer_of s.words n).graphics _ _ (λ t. graphics-le n u v c)
      (λ f. buffer-le n _)

  alpha-le : (n u v : ℕ) → alpha_at s n v u ≤ 255
  unfolding alpha_at
  alpha-le n u v =
      pick-keeps (λ (z : ℕ). z ≤ 255) (layer_of s.words n).global _ _
      (λ t. fade_of-le _ _ _ _ _ 255 (value-le s.words n) (target-le s.words n)) (λ f. own-le n u v 3)

  -- ---- what bounds the background and every covering layer bounds the pixel

  abbrev Within : ℕ → ℕ → ℕ → Type 0
  Within lo hi z = (lo ≤ z) × (z ≤ hi)

  pixel-within : (x y c lo hi p : ℕ) → Within lo hi p
      → ((n : ℕ) → n < 8 → shows s n y x ≡ true → Within lo hi (own_over s n y x c))
      → Within lo hi (pixel_at s y x c 0 8 p)
  unfolding over_at
  pixel-within x y c lo hi p b h =
      band_by-keeps (Within lo hi) s.words (over_at s y x c) 0 8 p
      (λ n q l bq. pick-keeps (Within lo hi) (covers (layer_of s.words n) y x) _ q
      (λ t. let o = h n l.number (rw (t, l.on)) in
      (blend_of-ge _ _ q lo (alpha-le n _ _) o.0 bq.0, blend_of-le _ _ q hi (alpha-le n _ _) o.1 bq.1))
      (λ f. bq)) b

  -- ---- the least and the greatest are such bounds

  least_step_lem : (x y c n p : ℕ) → least_step s y x c n p ≤ p
  unfolding least_step
  least_step_lem x y c n p = pick-keeps (λ (z : ℕ). z ≤ p) (shows s n y x) _ p (λ t. omega arith) (λ f. omega arith)

  least-own : (x y c n p : ℕ) → shows s n y x ≡ true → least_step s y x c n p ≤ own_over s n y x c
  unfolding least_step
  least-own x y c n p t = rw t (omega arith)

  greatest-step : (x y c n p : ℕ) → p ≤ greatest_step s y x c n p
  unfolding greatest_step
  greatest-step x y c n p = pick-keeps (λ (z : ℕ). p ≤ z) (shows s n y x) _ p (λ t. omega arith) (λ f. omega arith)

  greatest-own : (x y c n p : ℕ) → shows s n y x ≡ true → own_over s n y x c ≤ greatest_step s y x c n p
  unfolding greatest_step
  greatest-own x y c n p t = rw t (omega arith)

  module _ (x y c : ℕ) where
    ground-within : Within (least_at s y x c) (greatest_at s y x c) (ground_of s.words c)
    unfolding least_at greatest_at
    ground-within = (
      run-keeps (λ (z : ℕ). z ≤ ground_of s.words c) 0 8 _ _ (λ n q v b. omega (arith, least_step_lem x y c n q))
          (omega arith),
      run-keeps (λ (z : ℕ). ground_of s.words c ≤ z) 0 8 _ _ (λ n q v b. omega (arith, greatest-step x y c n q))
          (omega arith),
    )

    layer-within : (n : ℕ) → n < 8 → shows s n y x ≡ true
        → Within (least_at s y x c) (greatest_at s y x c) (own_over s n y x c)
    unfolding least_at greatest_at
    layer-within n hn t = (
      run-after (λ (z : ℕ). z ≤ own_over s n y x c) 0 8 n _ _ (omega arith)
          (λ q. least-own x y c n q t) (λ m q v b. omega (arith, least_step_lem x y c m q)),
      run-after (λ (z : ℕ). own_over s n y x c ≤ z) 0 8 n _ _ (omega arith)
          (λ q. greatest-own x y c n q t) (λ m q v b. omega (arith, greatest-step x y c m q)),
    )

    channel-within : Ready s → OnScreen s.words y x c
        → Within (least_at s y x c) (greatest_at s y x c) (channel_at s y x c)
    channel-within ready on =
        rw (channel_at-is s ready.shown x y c on)
        (pixel-within x y c (least_at s y x c) (greatest_at s y x c) (ground_of s.words c) ground-within layer-within)

-- the law
pub between : (s : Scene) → Ready s → AreBytes s.tables → AreBytes s.pictures → Between s (frame_of s)
unfolding channel_at
between s ready bt bp =
    record {
      least = λ y x c on. (channel-within s bt bp x y c ready on).0;
      greatest = λ y x c on. (channel-within s bt bp x y c ready on).1;
    }
