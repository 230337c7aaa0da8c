-- "where a layer's alpha comes to 255, neither the background nor the pixels and alphas of layers under
-- it count". Assumes nothing.
use mathlib.Core.Path.{◌≡◌, refl, sym, ap, ap₂, ◌∙◌}
use mathlib.Core.Bool.{Bool, true, false}
use mathlib.Core.Logic.{◌⊎◌, inl, inr, ⊎_elim}
use Prim.Native.Nat.{ℕ, ◌+◌, ◌*◌, ◌≤◌, ◌<◌}
use native.Mathlib.Omega.{arith}
use borrow.Author.Tests.{eqb-true}
use Rattle.lists.specs.Choice.{pick}
use Rattle.lists.proofs.Choice.{split, pick-cong, both_left, both_right}
use Rattle.lists.proofs.Sum.{sum-cong}
use Rattle.mix.specs.Blend.{blend_of}
use Rattle.mix.proofs.BlendLaws.{blend_of-opaque}
use Rattle.words.specs.declared.fields.Layer.{Layer}
use Rattle.words.specs.Fields.{layer_of}
use Rattle.words.specs.Order.{here}
use Rattle.words.specs.Pictures.{picture_len, picture_len_at, picture_start, start_at}
use Rattle.frames.specs.Scene.{Scene}
use Rattle.profiles.specs.Profile.{bits_of}
use Rattle.frames.specs.Pixel.{bank_bytes, colour_index, graphics_at, buffer_of, picture_at, own_at, alpha_at, covers}
use Rattle.frames.specs.Pixel.{over_at}
use Rattle.frames.specs.Band.{layer_step, depth_step, pixel_at}
use Rattle.frames.proofs.PixelLaws.{covers-covered, over-inside}
use Rattle.laws.specs.Painting.{Ready, IsLayer, OnScreen, channel_at, own_over, OpaqueAt, OtherUnder}
use Rattle.laws.specs.Wider.{SameAt, From, AgreeFrom}
use Rattle.laws.proofs.LayerLaws.{depth-lt}
use Rattle.laws.proofs.Bands.{band_by-forgets, depth_step-only}
use Rattle.laws.proofs.Pixels.{picture-room, across_lt, channel_at-is}

-- ---- the law

-- layers that show the same at a pixel are the same over it
over-shows : (s t : Scene) (m x y c p : ℕ) → SameAt s t m y x → c < 3 → over_at t y x c m p ≡ over_at s y x c m p
unfolding over_at
over-shows s t m x y c p e hc =
    rw (ap (λ (l : Layer). covers l y x) e.layer)
    (pick-cong (covers (layer_of s.words m) y x)
    (λ k. ap₂ (λ (a o : ℕ). blend_of a o p) (e.alpha k) (e.own k c hc)) (λ f. refl))

module _ (s t : Scene) (n x y : ℕ) (rs : Ready s) (rt : Ready t) (o : OpaqueAt s n y x)
    (agree : AgreeFrom s t (layer_of s.words n).depth y x) where
  abbrev d : ℕ
  d = (layer_of s.words n).depth

  above : (c e m q : ℕ) → c < 3 → d < e → m < 8
      → layer_step s.words (over_at s y x c) e m q ≡ layer_step t.words (over_at t y x c) e m q
  unfolding layer_step
  above c e m q hc h hm = go (here (layer_of s.words m) e) refl (here (layer_of t.words m) e) refl
    where
      same : SameAt s t m y x → pick (here (layer_of s.words m) e) (over_at s y x c m q) q
          ≡ pick (here (layer_of t.words m) e) (over_at t y x c m q) q
      same z = rw (over-shows s t m x y c q z hc, z.layer)

      from : (k : Scene) → here (layer_of k.words m) e ≡ true → From k.words d m
      from k p =
          let f : (layer_of k.words m).depth ≡ e = eqb-true _ _ (both_right (layer_of k.words m).on _ p) in
          record { layer = record { number = hm; on = both_left _ _ p }; depth = omega arith }

      go : (a : Bool) → here (layer_of s.words m) e ≡ a → (b : Bool) → here (layer_of t.words m) e ≡ b
          → pick (here (layer_of s.words m) e) (over_at s y x c m q) q
          ≡ pick (here (layer_of t.words m) e) (over_at t y x c m q) q
      go true p b r = same (agree.layers m (inl (from s p)))
      go false p true r = same (agree.layers m (inr (from t r)))
      go false p false r = rw (p, r)

  itself : SameAt s t n y x
  itself = agree.layers n (inl (record { layer = o.layer; depth = omega arith }))

  there : IsLayer t.words n
  there = record { number = o.layer.number; on = ap (λ (l : Layer). l.on) itself.layer ∙ o.layer.on }

  full : (c q : ℕ) → over_at s y x c n q ≡ own_over s n y x c
  full c q = over-inside s x y c n q (covers-covered _ x y o.covering) ∙ rw o.full (blend_of-opaque _ q)

  at-depth : (c q q' : ℕ) → c < 3
      → depth_step s.words (over_at s y x c) d q ≡ depth_step t.words (over_at t y x c) d q'
  at-depth c q q' hc =
      depth_step-only s.words (over_at s y x c) n _ q rs.accepted o.layer refl ∙ full c q ∙ sym (full c q')
      ∙ sym (over-shows s t n x y c q' itself hc)
      ∙ sym (depth_step-only t.words (over_at t y x c) n _ q' rt.accepted there
      (ap (λ (l : Layer). l.depth) itself.layer))

  -- whatever is under it, p or p'
  opaque-pixel : (c p p' : ℕ) → c < 3 → pixel_at s y x c 0 8 p ≡ pixel_at t y x c 0 8 p'
  opaque-pixel c p p' hc =
      band_by-forgets s.words t.words (over_at s y x c) (over_at t y x c) 0 8 d p p' (omega arith)
      (depth-lt s.words n)
      (λ q q'. at-depth c q q' hc) (λ e m q h hm. above c e m q hc h hm)

  channel-same : (c : ℕ) → OnScreen s.words y x c → channel_at t y x c ≡ channel_at s y x c
  channel-same c on =
      channel_at-is t rt.shown x y c
      (record { across = rw agree.size on.across; down = rw agree.size on.down; channel = on.channel })
      ∙ sym (opaque-pixel c _ _ on.channel) ∙ sym (channel_at-is s rs.shown x y c on)

-- the frame's channels there are the same, whatever the background and whatever lies under the layer
pub opaque : (s t : Scene) (n y x c : ℕ) → Ready s → Ready t → OpaqueAt s n y x
    → AgreeFrom s t (layer_of s.words n).depth y x → OnScreen s.words y x c
    → channel_at t y x c ≡ channel_at s y x c
opaque s t n y x c rs rt o agree on = channel-same s t n x y rs rt o agree c on

-- ---- in the demand's own words: another background, other pixels and alphas under the layer

module _ (s t : Scene) (d : ℕ) (other : OtherUnder s t d) where
  -- pictures stand where they stood
  picture_len-same : (k : Bool) (m : ℕ) → m < 8 → picture_len_at k t.words m ≡ picture_len_at k s.words m
  unfolding picture_len_at picture_len
  picture_len-same k m h = ⊎_elim
      (λ (lt : (layer_of s.words m).depth < d). ap (picture_len k) (other.under m h lt))
      (λ (ge : d ≤ (layer_of s.words m).depth). ap (picture_len k) (other.above m h ge))
      (split (layer_of s.words m).depth d)

  start-same : (m : ℕ) → m < 8 → layer_of t.words m ≡ layer_of s.words m → start_at t.words m ≡ start_at s.words m
  unfolding start_at picture_start
  start-same m h e =
      rw e (sum-cong m _ _ (λ n lt. picture_len-same (layer_of s.words m).floats n (omega arith)))

  bank_bytes-same : (m kind : ℕ) → m < 8 → d ≤ (layer_of s.words m).depth
      → bank_bytes (bits_of t.profile) t.words t.tables m kind
      ≡ bank_bytes (bits_of s.profile) s.words s.tables m kind
  unfolding bank_bytes
  bank_bytes-same m kind h ge = rw (other.profile, other.banks) (other.tables m kind h ge)

  -- a layer from d on in either scene is one in s
  from-s : (m : ℕ) → From s.words d m ⊎ From t.words d m → From s.words d m
  from-s m = ⊎_elim (λ (f : From s.words d m). f) (λ (f : From t.words d m). back f)
    where
      deep : From t.words d m → d ≤ (layer_of s.words m).depth
      deep f = ⊎_elim
          (λ (lt : (layer_of s.words m).depth < d).
          let e : (layer_of t.words m).depth ≡ (layer_of s.words m).depth =
          ap (λ (l : Layer). l.depth) (other.under m f.layer.number lt) in
          omega (arith, f.depth))
          (λ (ge : d ≤ (layer_of s.words m).depth). ge)
          (split (layer_of s.words m).depth d)

      back : From t.words d m → From s.words d m
      back f =
          let e = other.above m f.layer.number (deep f) in
          record {
            layer = record { number = f.layer.number; on = sym (ap (λ (l : Layer). l.on) e) ∙ f.layer.on };
            depth = deep f;
          }

  own_same : (m u v c : ℕ) → From s.words d m → u < (layer_of s.words m).width
      → v < (layer_of s.words m).height → c < 4 → own_at t m v u c ≡ own_at s m v u c
  unfolding own_at graphics_at colour_index picture_at buffer_of
  own_same m u v c f hu hv hc =
      let hm = f.layer.number in
      let e = other.above m hm f.depth in
      rw (
        e,
        start-same m hm e,
        bank_bytes-same m 0 hm f.depth,
        bank_bytes-same m 1 hm f.depth,
        bank_bytes-same m 2 hm f.depth,
        bank_bytes-same m 3 hm f.depth,
        other.profile,
      )
      (pick-cong (layer_of s.words m).graphics (λ g. refl)
      (λ g. rw e at (other.pictures m (4 * (v * (layer_of s.words m).width + u) + c) hm f.depth
      (picture-room s.words m u v c f.layer.on g hu hv hc))))

  alpha-same : (m u v : ℕ) → From s.words d m → u < (layer_of s.words m).width
      → v < (layer_of s.words m).height → alpha_at t m v u ≡ alpha_at s m v u
  unfolding alpha_at
  alpha-same m u v f hu hv =
      rw (own_same m u v 3 f hu hv (omega arith), other.above m f.layer.number f.depth, other.frame)

  pub under-agrees : (x y : ℕ) → AgreeFrom s t d y x
  under-agrees x y = record { size = other.size; layers = λ m e. same m (from-s m e) }
    where
      same : (m : ℕ) → From s.words d m → SameAt s t m y x
      same m f =
          let e = other.above m f.layer.number f.depth in
          record {
            layer = e;
            alpha = λ k. let i = across_lt (layer_of s.words m) x y k in rw e (alpha-same m _ _ f i.0 i.1);
            own = λ k c hc. let i = across_lt (layer_of s.words m) x y k in
                rw e (own_same m _ _ c f i.0 i.1 (omega arith));
          }

pub opaque-under : (s t : Scene) (n y x c : ℕ) → Ready s → Ready t → OpaqueAt s n y x
    → OtherUnder s t (layer_of s.words n).depth → OnScreen s.words y x c → channel_at t y x c ≡ channel_at s y x c
opaque-under s t n y x c rs rt o other on =
    opaque s t n y x c rs rt o (under-agrees s t (layer_of s.words n).depth other x y) on
