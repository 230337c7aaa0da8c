-- Blocks of a run over one pixel, and a whole run over a row of it. Assumes nothing.
use mathlib.Core.Path.{◌≡◌, refl, sym, ap, ◌∙◌}
use mathlib.Core.Bool.{Bool, false}
use mathlib.Core.List.{List, [], ◌∷◌}
use Prim.Native.Nat.{ℕ, ◌+◌, ◌-◌, ◌*◌, ◌/◌, ◌%◌, ◌≤◌, ◌<◌}
use native.Mathlib.Omega.{arith}
use lib.ListN.{length, get_or}
use Rattle.lists.specs.Tab.{tab, each}
use Rattle.lists.proofs.Tab.{length-tab, get_d-tab, is-each}
use Rattle.sixteen.specs.Engine.Lanes.{Part, Reach, Front, Lanes, anew, WordIs, Bytes, PixelIs, SameIs, HalfIs, JoinIs}
use Rattle.sixteen.specs.Engine.Lanes.{HighIs, MixIs, AllAlpha, store_byte}
use Rattle.colours.specs.Rows.{word_byte, solid_byte}
use Rattle.span.specs.Span.{over_byte}
use Rattle.span.specs.Engine.Laid.{lay_byte, Onward}
use Rattle.sixteen.proofs.PartLaws.{part-cong, part-over, part-to, reach-turn, block-turn, whole}
use Rattle.sixteen.proofs.LaneLaws.{store_byte-even, store_byte-odd}
use Rattle.colours.proofs.RowLaws.{pixel_byte-at}
use Rattle.colours.proofs.PixelLaws.{halves-byte, word_byte-is}
use Rattle.span.proofs.OverLaws.{over_byte-clear}
use Rattle.span.proofs.OverParts.{AlphaIs, alphas-own, mix-bytes, copy-bytes, own_at}

lay-is : (over : List ℕ) (g : Bool) (a : ℕ) (f : ℕ → ℕ) (i : ℕ) {p : ℕ} → p ≡ f i
    → over_byte over g a i p ≡ lay_byte over g a f i
unfolding lay_byte
lay-is over g a f i e = ap (over_byte over g a i) e

-- ---- a block

module _ (c at : ℕ) (h : at % 4 ≡ 0) where
  -- the row of the pixel c, as far as the block goes
  abbrev row : List ℕ
  row = tab (at + 64) (word_byte c)

  pub ground-words : {p u : List ℕ} → Lanes p 16 (SameIs c) → Lanes u 32 (HalfIs p) → Lanes u 32 (WordIs row at)
  ground-words {p} {u} ep eu = record {
    lane = λ k lt. record {
      low = sym (store_byte-even u at k) ∙ byte (at + 2 * k) (omega arith) (omega arith);
      high = sym (store_byte-odd u at k) ∙ byte (at + 2 * k + 1) (omega arith) (omega arith);
    };
  }
    where
      byte : (i : ℕ) → at ≤ i → i < at + 64 → store_byte u at i ≡ get_or row i 0
      byte i h1 h2 =
          halves-byte p u at h eu i h1 h2 ∙ ap (λ (v : ℕ). word_byte v i) (ep.lane ((i - at) / 4) (omega arith)).is
          ∙ sym (get_d-tab (at + 64) (word_byte c) i h2)

  pub ground-pixels : {q : List ℕ} → Lanes q 16 (SameIs c) → Lanes q 16 (PixelIs row at)
  ground-pixels {q} eq = record {
    lane = λ k lt. record {
      bytes = rw (eq.lane k lt).is (record {
        p0 = sym (byte (at + 4 * k) 0 (omega arith) (omega arith));
        p1 = sym (byte (at + 4 * k + 1) 1 (omega arith) (omega arith));
        p2 = sym (byte (at + 4 * k + 2) 2 (omega arith) (omega arith));
        p3 = sym (byte (at + 4 * k + 3) 3 (omega arith) (omega arith));
      });
    };
  }
    where
      byte : (i r : ℕ) → i % 4 ≡ r → i < at + 64
          → get_or row i 0 ≡ get_or (c % 256 ∷ c / 256 % 256 ∷ c / 65536 % 256 ∷ c / 16777216 ∷ []) r 0
      byte i r m lt = get_d-tab (at + 64) (word_byte c) i lt ∙ pixel_byte-at _ _ _ _ i r m

  module _ (over : List ℕ) where
    pub lay-mixed : {l l₀ ow p u al w : List ℕ} {g : Bool} {a : ℕ} → Lanes ow 32 (WordIs over at)
        → Lanes p 16 (SameIs c) → Lanes u 32 (HalfIs p)
        → Lanes al 32 (AlphaIs over at g a) → Lanes w 32 (MixIs al ow u)
        → Part l l₀ (anew (store_byte w at)) at (at + 64)
        → Part l l₀ (anew (lay_byte over g a (word_byte c))) at (at + 64)
    lay-mixed {g = g} {a = a} eo ep eu ea ew pt = part-cong pt (λ i h1 h2.
        mix-bytes row over g a at h eo (ground-words ep eu) ea ew i h1 h2
        ∙ lay-is over g a (word_byte c) i (get_d-tab (at + 64) (word_byte c) i h2))

    pub lay-copied : {l l₀ p q w hw : List ℕ} → Lanes p 16 (PixelIs over at) → Lanes q 16 (SameIs c)
        → Lanes w 16 (JoinIs p q) → Lanes hw 32 (HalfIs w)
        → AllAlpha over at 16 255 → Part l l₀ (anew (store_byte hw at)) at (at + 64)
        → Part l l₀ (anew (lay_byte over false 0 (word_byte c))) at (at + 64)
    lay-copied ep eq ew eh all pt = part-cong pt (λ i h1 h2.
        copy-bytes row over at h ep (ground-pixels eq) ew eh i h1 h2
        ∙ own_at over at 16 255 h all i (get_or row i 0) h1 h2
        ∙ lay-is over false 0 (word_byte c) i (get_d-tab (at + 64) (word_byte c) i h2))

    pub lay-clear : {l l₀ : List ℕ} → AllAlpha over at 16 0 → Part l l₀ (anew (word_byte c)) at (at + 64)
        → Part l l₀ (anew (lay_byte over false 0 (word_byte c))) at (at + 64)
    lay-clear all pt = part-cong pt (λ i h1 h2.
        sym (over_byte-clear over i (word_byte c i))
        ∙ own_at over at 16 0 h all i (word_byte c i) h1 h2
        ∙ lay-is over false 0 (word_byte c) i refl)

-- ---- stretches of blocks

module _ (c : ℕ) (over : List ℕ) {r l l₀ : List ℕ} {a i : ℕ} (p : Reach l l₀ (anew (lay_byte over false 0 (word_byte c))) a i)
    (h : i + 64 ≤ length l₀) where
  pub mixed-more : {ow pw u al w : List ℕ} → Lanes ow 32 (WordIs over i) → Lanes pw 16 (SameIs c) → Lanes u 32 (HalfIs pw)
      → Lanes al 32 (HighIs ow) → Lanes w 32 (MixIs al ow u) → Part r l (anew (store_byte w i)) i (i + 64)
      → Reach r l₀ (anew (lay_byte over false 0 (word_byte c))) a (i + 64)
  mixed-more eo ep eu ea ew q =
      block-turn p refl (omega arith) (lay-mixed c i p.border over eo ep eu (alphas-own eo ea) ew q)

  pub opaque-more : {pw qw w hw : List ℕ} → AllAlpha over i 16 255 → Lanes pw 16 (PixelIs over i) → Lanes qw 16 (SameIs c)
      → Lanes w 16 (JoinIs pw qw) → Lanes hw 32 (HalfIs w) → Part r l (anew (store_byte hw i)) i (i + 64)
      → Reach r l₀ (anew (lay_byte over false 0 (word_byte c))) a (i + 64)
  opaque-more all ep eq ew eh q = block-turn p refl (omega arith) (lay-copied c i p.border over ep eq ew eh all q)

-- ---- a run

-- over the row that the pixel's bytes make
lay-solid : (over : List ℕ) (g : Bool) (a c0 c1 c2 : ℕ) {c : ℕ} {r l : List ℕ} {i j : ℕ} → Bytes c c0 c1 c2 255
    → Part r l (anew (lay_byte over g a (word_byte c))) i j
    → Part r l (anew (lay_byte over g a (solid_byte c0 c1 c2))) i j
unfolding lay_byte
lay-solid over g a c0 c1 c2 {c} b q = part-cong q (λ j h1 h2. ap (over_byte over g a j) (word_byte-is c c0 c1 c2 255 j b))

-- one block more
pub lay-turn : (over : List ℕ) (g : Bool) (a c0 c1 c2 : ℕ) {c : ℕ} {r l l₀ : List ℕ} {i : ℕ}
    → Front l l₀ (anew (lay_byte over g a (solid_byte c0 c1 c2))) i → length l₀ ≡ length over → 64 ≤ length over - i
    → Bytes c c0 c1 c2 255 → Part r l (anew (lay_byte over g a (word_byte c))) i (i + 64)
    → Front r l₀ (anew (lay_byte over g a (solid_byte c0 c1 c2))) (i + 64)
lay-turn over g a c0 c1 c2 p e h b q = block-turn p e h (lay-solid over g a c0 c1 c2 b q)

-- a stretch more
pub lay-stretch : (over : List ℕ) (g : Bool) (a c0 c1 c2 : ℕ) {c : ℕ} {r l l₀ : List ℕ} {i j : ℕ}
    → Front l l₀ (anew (lay_byte over g a (solid_byte c0 c1 c2))) i → Bytes c c0 c1 c2 255
    → Onward r l (anew (lay_byte over g a (word_byte c))) i j
    → Front r l₀ (anew (lay_byte over g a (solid_byte c0 c1 c2))) j
lay-stretch over g a c0 c1 c2 p b q =
    let s = q.reach in
    reach-turn p (lay-solid over g a c0 c1 c2 b s.part) s.least (omega (arith, s.most, p.part.long)) s.border

-- the blocks, and then the rest filled and blended
pub lay-each : (over : List ℕ) (g : Bool) (a : ℕ) {f : ℕ → ℕ} {r k l l₀ : List ℕ} {b : ℕ}
    → Front l l₀ (anew (lay_byte over g a f)) b → Part k l (anew f) b (length l)
    → Part r k (over_byte over g a) b (length k) → r ≡ each (over_byte over g a) (tab (length l₀) f)
unfolding lay_byte
lay-each over g a {f} {r} {k} {l} {l₀} p q s =
    let n = length l₀ in
    let t = part-over q (part-to s q.long) in
    is-each _ r (over_byte over g a) (t.long ∙ p.part.long ∙ sym (length-tab n f))
    (λ i h. let lt : i < n = omega (arith, length-tab n f) in rw (get_d-tab n f i lt) (whole p t i lt))
