-- Blocks and pixels blended over a run, as parts of it: the words that were stored are what
-- `over_byte` says. A byte's place in its pixel follows from the block's, which is a multiple of
-- four. Assumes nothing.
use mathlib.Core.Path.{◌≡◌, refl, sym, ap, ◌∙◌}
use mathlib.Core.Bool.{Bool, true, false}
use mathlib.Core.Logic.{⊎_elim}
use mathlib.Core.List.{List}
use Prim.Native.Nat.{ℕ, ◌+◌, ◌-◌, ◌*◌, ◌/◌, ◌%◌, ◌≤◌, ◌<◌}
use native.Mathlib.Omega.{arith}
use lib.ListN.{length, get_or, set}
use Rattle.lists.specs.Choice.{pick}
use Rattle.lists.specs.Tab.{each}
use Rattle.lists.proofs.Choice.{parity}
use Rattle.lists.proofs.Digits.{mod-of}
use Rattle.mix.specs.Blend.{blend_of}
use Rattle.mix.proofs.BlendLaws.{blend_of-clear}
use Rattle.sixteen.specs.Engine.Lanes.{Part, Reach, Front, Lanes, anew, WordIs, Bytes, PixelIs, HighIs, SameIs, MixIs}
use Rattle.sixteen.specs.Engine.Lanes.{HalfIs, JoinIs, AllAlpha, store_byte}
use Rattle.span.specs.Span.{over_byte}
use Rattle.span.specs.Engine.Laid.{Copied, Onward}
use Rattle.sixteen.proofs.PartLaws.{part_none, part-set, part-skip, part-cong, reach-none, reach-turn, block-turn, pixels-turn}
use Rattle.sixteen.proofs.PartLaws.{front-each}
use Rattle.sixteen.proofs.LaneLaws.{lanes-map, by_parity-even, by_parity-odd, store_byte-even, store_byte-odd, by-words}
use Rattle.colours.proofs.PixelLaws.{halves-byte, word_byte-is, pixel_byte-is, join-bytes}
use Rattle.span.proofs.OverLaws.{over_byte-channel, over_byte-alpha, over_byte-clear, over_byte-opaque, over_byte-own}

-- ---- stretches of blocks

-- one of one block
pub stretch-one : {l l₀ : List ℕ} {g : ℕ → ℕ → ℕ} {i : ℕ} → i + 64 ≤ length l₀ → i % 4 ≡ 0 → Part l l₀ g i (i + 64)
    → Onward l l₀ g i (i + 64)
stretch-one {l₀ = l₀} {g} {i} h m q =
    record { reach = block-turn (reach-none l₀ g i (omega arith) m) refl (omega arith) q; some = omega arith }

-- one after a part
pub stretch-then : {r l l₀ : List ℕ} {g : ℕ → ℕ → ℕ} {a i b : ℕ} → Reach l l₀ g a i → Onward r l g i b → Reach r l₀ g a b
stretch-then p q =
    reach-turn p q.reach.part q.reach.least (omega (arith, q.reach.most, p.part.long)) q.reach.border

-- ---- blended blocks

-- the alpha of word k of a block: its pixel's, or one for all
pub record AlphaIs (over : List ℕ) (at : ℕ) (g : Bool) (a k v : ℕ) : Type 0 where
  pub is : v ≡ pick g a (get_or over (at + 4 * (k / 2) + 3) 0)

pub alphas-own : {over ow al : List ℕ} {at : ℕ} → Lanes ow 32 (WordIs over at) → Lanes al 32 (HighIs ow)
    → Lanes al 32 (AlphaIs over at false 0)
alphas-own {over} {ow} {al} {at} eo ea = record {
  lane = λ k lt. record {
    is = (ea.lane k lt).is ∙ (eo.lane (2 * (k / 2) + 1) (omega arith)).high
        ∙ ap (λ (n : ℕ). get_or over n 0)
        (let q : at + 2 * (2 * (k / 2) + 1) + 1 ≡ at + 4 * (k / 2) + 3 = omega arith in q);
  };
}

pub alphas-one : (over : List ℕ) (at : ℕ) {a : ℕ} {al : List ℕ} → Lanes al 32 (SameIs a)
    → Lanes al 32 (AlphaIs over at true a)
alphas-one over at ea = lanes-map ea (omega arith) (λ k v lt e. record { is = e.is })

module _ (under over : List ℕ) (g : Bool) (a at : ℕ) (h : at % 4 ≡ 0) where
  pub mix-bytes : {ow uw al w : List ℕ} → Lanes ow 32 (WordIs over at) → Lanes uw 32 (WordIs under at)
      → Lanes al 32 (AlphaIs over at g a) → Lanes w 32 (MixIs al ow uw)
      → (i : ℕ) → at ≤ i → i < at + 64 → store_byte w at i ≡ over_byte over g a i (get_or under i 0)
  mix-bytes {ow} {uw} {al} {w} eo eu ea ew =
      by-words (λ (i : ℕ). store_byte w at i ≡ over_byte over g a i (get_or under i 0)) at even odd
    where
      even : (k : ℕ) → k < 32 → store_byte w at (at + 2 * k) ≡ over_byte over g a (at + 2 * k) (get_or under (at + 2 * k) 0)
      even k lt =
          store_byte-even w at k ∙ (ew.lane k lt).mix.low
          ∙ rw ((ea.lane k lt).is, (eo.lane k lt).low, (eu.lane k lt).low)
          (sym (over_byte-channel over g a (at + 2 * k) _ (at + 4 * (k / 2) + 3) (omega arith) (omega arith)))

      odd : (k : ℕ) → k < 32
          → store_byte w at (at + 2 * k + 1) ≡ over_byte over g a (at + 2 * k + 1) (get_or under (at + 2 * k + 1) 0)
      odd k lt = store_byte-odd w at k ∙ (ew.lane k lt).mix.high ∙ ⊎_elim
          (λ (z : k % 2 ≡ 0).
          let m : (at + 2 * k + 1) % 4 ≡ 1 = mod-of (at + 2 * k + 1) 4 (at / 4 + k / 2) 1 (omega arith) (omega arith) in
          rw (by_parity-even k (get_or al k 0) 0 z, (ea.lane k lt).is, (eo.lane k lt).high, (eu.lane k lt).high)
          (sym (over_byte-channel over g a (at + 2 * k + 1) _ (at + 4 * (k / 2) + 3) (omega arith) (omega arith))))
          (λ (z : k % 2 ≡ 1).
          let m : (at + 2 * k + 1) % 4 ≡ 3 = mod-of (at + 2 * k + 1) 4 (at / 4 + k / 2) 3 (omega arith) (omega arith) in
          rw (by_parity-odd k (get_or al k 0) 0 z, blend_of-clear, (eu.lane k lt).high)
          (sym (over_byte-alpha over g a (at + 2 * k + 1) _ m)))
          (parity k)

pub mix-block : (out over : List ℕ) (g : Bool) (a at : ℕ) → at % 4 ≡ 0 → {l ow uw al w : List ℕ}
    → Lanes ow 32 (WordIs over at) → Lanes uw 32 (WordIs out at)
    → Lanes al 32 (AlphaIs over at g a) → Lanes w 32 (MixIs al ow uw) → Part l out (anew (store_byte w at)) at (at + 64)
    → Part l out (over_byte over g a) at (at + 64)
mix-block out over g a at h eo eu ea ew p = part-cong p (mix-bytes out over g a at h eo eu ea ew)

-- one more, at its pixels' own alphas
pub own-mixed : (over : List ℕ) {r l l₀ ow uw al w : List ℕ} {a i : ℕ} → Reach l l₀ (over_byte over false 0) a i
    → i + 64 ≤ length l₀ → Lanes ow 32 (WordIs over i) → Lanes uw 32 (WordIs l i) → Lanes al 32 (HighIs ow)
    → Lanes w 32 (MixIs al ow uw) → Part r l (anew (store_byte w i)) i (i + 64)
    → Reach r l₀ (over_byte over false 0) a (i + 64)
own-mixed over p h eo eu ea ew q =
    block-turn p refl (omega arith) (mix-block _ over false 0 _ p.border eo eu (alphas-own eo ea) ew q)

-- ---- clear and opaque blocks

clear-block : (out over : List ℕ) (at : ℕ) → Part out out (over_byte over true 0) at (at + 64)
clear-block out over at =
    part-skip (at + 64) (part_none out (over_byte over true 0) at at (omega arith)) (omega arith)
    (λ i h1 h2. over_byte-clear over i (get_or out i 0))

-- pixels whose own alphas are all a
pub own_at : (over : List ℕ) (at n a : ℕ) → at % 4 ≡ 0 → AllAlpha over at n a → (i p : ℕ) → at ≤ i → i < at + 4 * n
    → over_byte over true a i p ≡ over_byte over false 0 i p
own_at over at n a h all i p h1 h2 =
    over_byte-own over i p (at + 4 * ((i - at) / 4) + 3) a (omega arith) (all.all ((i - at) / 4) (omega arith))

own-part : (over : List ℕ) (at n a : ℕ) {l l₀ : List ℕ} → at % 4 ≡ 0 → AllAlpha over at n a
    → Part l l₀ (over_byte over true a) at (at + 4 * n) → Part l l₀ (over_byte over false 0) at (at + 4 * n)
own-part over at n a {l} {l₀} h all p = part-cong p (λ i h1 h2. own_at over at n a h all i (get_or l₀ i 0) h1 h2)

pub own-clear : (out over : List ℕ) (at : ℕ) → at % 4 ≡ 0 → AllAlpha over at 16 0
    → Part out out (over_byte over false 0) at (at + 64)
own-clear out over at h all = own-part over at 16 0 h all (clear-block out over at)

pub own-copied : {l l₀ p : List ℕ} (over : List ℕ) (at : ℕ) → at % 4 ≡ 0 → AllAlpha over at 16 255
    → Lanes p 16 (PixelIs over at) → Copied p at l l₀
    → Part l l₀ (over_byte over false 0) at (at + 64)
own-copied over at h all e p = own-part over at 16 255 h all (p.over over e)

module _ (under over : List ℕ) (at : ℕ) (h : at % 4 ≡ 0) where
  abbrev copied : ℕ → ℕ
  copied i = over_byte over true 255 i (get_or under i 0)

  copied-bytes : (v j : ℕ) → j % 4 ≡ 0
      → Bytes v (get_or over j 0) (get_or over (j + 1) 0) (get_or over (j + 2) 0) (get_or under (j + 3) 0)
      → Bytes v (copied j) (copied (j + 1)) (copied (j + 2)) (copied (j + 3))
  copied-bytes v j hj b = record {
    p0 = b.p0 ∙ sym (over_byte-opaque over j (get_or under j 0) (omega arith));
    p1 = b.p1 ∙ sym (over_byte-opaque over (j + 1) (get_or under (j + 1) 0) (omega arith));
    p2 = b.p2 ∙ sym (over_byte-opaque over (j + 2) (get_or under (j + 2) 0) (omega arith));
    p3 = b.p3 ∙ sym (over_byte-alpha over true 255 (j + 3) (get_or under (j + 3) 0) (omega arith));
  }

  pub copy-bytes : {p q w hw : List ℕ} → Lanes p 16 (PixelIs over at) → Lanes q 16 (PixelIs under at)
      → Lanes w 16 (JoinIs p q) → Lanes hw 32 (HalfIs w)
      → (i : ℕ) → at ≤ i → i < at + 64 → store_byte hw at i ≡ copied i
  copy-bytes {p} {q} {w} {hw} ep eq ew eh i h1 h2 =
      let m = (i - at) / 4 in
      let lm : m < 16 = omega arith in
      halves-byte w hw at h eh i h1 h2
      ∙ word_byte-is _ _ _ _ _ i (copied-bytes (get_or w m 0) (at + 4 * m) (omega arith)
      (join-bytes _ _ _ _ _ _ _ _ _ _ _ (ew.lane m lm).is (ep.lane m lm).bytes (eq.lane m lm).bytes))
      ∙ pixel_byte-is copied (at + 4 * m) i (omega arith) (omega arith) (omega arith)

pub copy-block : (out over : List ℕ) (at : ℕ) → at % 4 ≡ 0 → {l p q w hw : List ℕ} → Lanes p 16 (PixelIs over at)
    → Lanes q 16 (PixelIs out at)
    → Lanes w 16 (JoinIs p q) → Lanes hw 32 (HalfIs w) → Part l out (anew (store_byte hw at)) at (at + 64)
    → Part l out (over_byte over true 255) at (at + 64)
copy-block out over at h ep eq ew eh pt = part-cong pt (copy-bytes out over at h ep eq ew eh)

-- ---- single pixels, and a whole run

pub pixel-part : (out over : List ℕ) (a i : ℕ) {r0 r1 r2 : ℕ} → i % 4 ≡ 0 → i + 4 ≤ length out
    → r0 ≡ blend_of a (get_or over i 0) (get_or out i 0) → r1 ≡ blend_of a (get_or over (i + 1) 0) (get_or out (i + 1) 0)
    → r2 ≡ blend_of a (get_or over (i + 2) 0) (get_or out (i + 2) 0)
    → Part (set (set (set out i r0) (i + 1) r1) (i + 2) r2) out (over_byte over true a) i (i + 4)
pixel-part out over a i {r0} {r1} {r2} h b e0 e1 e2 =
    part-skip (i + 4)
    (part-set (i + 2) r2
    (part-set (i + 1) r1
    (part-set i r0 (part_none out (over_byte over true a) i i (omega arith)) (omega arith) refl refl (omega arith)
    (e0 ∙ sym (over_byte-channel over true a i _ (4 * (i / 4) + 3) (omega arith) refl)))
    (omega arith) refl refl (omega arith)
    (e1 ∙ sym (over_byte-channel over true a (i + 1) _ (4 * ((i + 1) / 4) + 3) (omega arith) refl)))
    (omega arith) (omega arith) refl (omega arith)
    (e2 ∙ sym (over_byte-channel over true a (i + 2) _ (4 * ((i + 2) / 4) + 3) (omega arith) refl)))
    (omega arith) (λ j h1 h2. over_byte-alpha over true a j _ (omega arith))

-- a turn in which the pixel's own alpha is handed on
pub own_turn : (over : List ℕ) {r l l₀ : List ℕ} {b i : ℕ} → Reach l l₀ (over_byte over false 0) b i
    → length l₀ ≡ length over → length l₀ % 4 ≡ 0 → i < length over
    → Part r l (over_byte over true (get_or over (i + 3) 0)) i (i + 4) → Reach r l₀ (over_byte over false 0) b (i + 4)
own_turn over {i = i} p e m h q =
    reach-turn p (own-part over i 1 (get_or over (i + 3) 0) p.border
    (record { all = λ k lt. ap (λ (n : ℕ). get_or over n 0) (let z : i + 4 * k + 3 ≡ i + 3 = omega arith in z) }) q) (omega arith) (omega (arith, p.border)) (omega (arith, p.border))

-- the same, as a loop has it that counts the pixels
pub own-next : (over : List ℕ) {r l l₀ : List ℕ} {b k : ℕ} → Reach l l₀ (over_byte over false 0) b (4 * k)
    → length l₀ ≡ length over → k < length over / 4
    → Part r l (over_byte over true (get_or over (4 * k + 3) 0)) (4 * k) (4 * k + 4)
    → Reach r l₀ (over_byte over false 0) b (4 * (k + 1))
own-next over {k = k} p e h q =
    pixels-turn p e h (own-part over (4 * k) 1 (get_or over (4 * k + 3) 0) p.border
    (record { all = λ j lt. ap (λ (n : ℕ). get_or over n 0) (let z : 4 * k + 4 * j + 3 ≡ 4 * k + 3 = omega arith in z) }) q)

-- a run at the alpha 255
pub opaque-each : (over : List ℕ) (alpha : ℕ) {r l l₀ : List ℕ} {b : ℕ} → alpha ≡ 255
    → Front l l₀ (over_byte over true 255) b → Part r l (over_byte over true 255) b (length l)
    → r ≡ each (over_byte over true alpha) l₀
opaque-each over alpha e p q = rw e (front-each p q)
