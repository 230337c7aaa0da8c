-- Laws of the words of a block: how a loop fills them, and what bytes they store. Assumes nothing.
use mathlib.Core.Path.{◌≡◌, refl, sym, ap, ◌∙◌}
use mathlib.Core.Bool.{Bool, true}
use mathlib.Core.Logic.{⊎_elim}
use mathlib.Core.List.{List}
use Prim.Native.Nat.{ℕ, ◌+◌, ◌-◌, ◌*◌, ◌/◌, ◌%◌, ◌≤◌, ◌<◌}
use native.Mathlib.Nat.{not-suc-le-zero}
use native.Mathlib.Omega.{arith}
use lib.ListN.{length, get_or, set, replicate}
use borrow.Author.Tests.{eq-eqb, ne_eqb}
use Rattle.std.proofs.lemmas.List.{get_or-replicate}
use Rattle.lists.proofs.Choice.{parity}
use Rattle.sixteen.specs.Engine.Lanes.{Part, Lanes, anew, by_parity, PixelIs, HighIs, SameIs, Small}
use Rattle.sixteen.specs.Engine.Lanes.{HasAlpha, AllAlpha, store_byte}
use Rattle.sixteen.proofs.PartLaws.{part-set}

-- ---- an array filled from the front

-- what follows of each lane, and of fewer of them
pub lanes-map : {w : List ℕ} {k n : ℕ} {P Q : ℕ → ℕ → Type 0} → Lanes w k P → n ≤ k
    → ((j v : ℕ) → j < n → P j v → Q j v) → Lanes w n Q
lanes-map {w} e h f = record { lane = λ j lt. f j (get_or w j 0) lt (e.lane j (omega arith)) }

-- the loop's invariant: an array of n words, of which the first k are as P says
pub record Filled (w : List ℕ) (n k : ℕ) (P : ℕ → ℕ → Type 0) : Type 0 where
  pub long : length w ≡ n
  pub most : k ≤ n
  pub lanes : Lanes w k P

pub filled_none : {w : List ℕ} {n : ℕ} (P : ℕ → ℕ → Type 0) → length w ≡ n → Filled w n 0 P
filled_none {w} P l = record { long = l; most = omega arith; lanes = record { lane = λ k h. absurd (not-suc-le-zero h) } }

-- an array of one word, over and over
pub lanes-same : (n a : ℕ) → Lanes (replicate n a) n (SameIs a)
lanes-same n a = record { lane = λ k h. record { is = get_or-replicate n k a 0 h } }

-- ---- even and odd words

pub by_parity-even : (n a b : ℕ) → n % 2 ≡ 0 → by_parity n a b ≡ a
by_parity-even n a b h = simp (eq-eqb (n % 2) 0 h)

pub by_parity-odd : (n a b : ℕ) → n % 2 ≡ 1 → by_parity n a b ≡ b
by_parity-odd n a b h = simp (ne_eqb (n % 2) 0 (λ q. omega arith))

-- ---- alphas below 256

pub high_small : {ow al : List ℕ} → Lanes al 32 (HighIs ow) → Lanes al 32 Small
high_small ea = lanes-map ea (omega arith) (λ k v lt e. record { small = e.small })

-- ---- the bytes that words store

pub store_byte-even : (w : List ℕ) (at k : ℕ) → store_byte w at (at + 2 * k) ≡ get_or w k 0 % 256
unfolding store_byte
store_byte-even w at k =
    by_parity-even (at + 2 * k - at) _ _ (omega arith)
    ∙ ap (λ (n : ℕ). get_or w n 0 % 256) (let q : (at + 2 * k - at) / 2 ≡ k = omega arith in q)

pub store_byte-odd : (w : List ℕ) (at k : ℕ) → store_byte w at (at + 2 * k + 1) ≡ get_or w k 0 / 256
unfolding store_byte
store_byte-odd w at k =
    by_parity-odd (at + 2 * k + 1 - at) _ _ (omega arith)
    ∙ ap (λ (n : ℕ). get_or w n 0 / 256) (let q : (at + 2 * k + 1 - at) / 2 ≡ k = omega arith in q)

pub store-turn : {l l₀ : List ℕ} {at k u v : ℕ} (w : List ℕ) → Part l l₀ (anew (store_byte w at)) at (at + 2 * k)
    → k < 32 → at + 64 ≤ length l₀ → u ≡ get_or w k 0 % 256 → v ≡ get_or w k 0 / 256
    → Part (set (set l (at + 2 * k) u) (at + 2 * k + 1) v) l₀ (anew (store_byte w at)) at (at + 2 * (k + 1))
store-turn {l} {l₀} {at} {k} {u} {v} w p lt b eu ev =
    part-set (at + 2 * k + 1) v
    (part-set (at + 2 * k) u p (omega arith) refl refl (omega arith) (eu ∙ sym (store_byte-even w at k)))
    (omega arith) refl (omega arith) (omega arith) (ev ∙ sym (store_byte-odd w at k))

-- what holds of both bytes of each word holds of each byte
pub by-words : (P : ℕ → Type 0) (at : ℕ) → ((k : ℕ) → k < 32 → P (at + 2 * k)) → ((k : ℕ) → k < 32 → P (at + 2 * k + 1))
    → (i : ℕ) → at ≤ i → i < at + 64 → P i
by-words P at e o i h1 h2 = ⊎_elim
    (λ (z : (i - at) % 2 ≡ 0). let q : i ≡ at + 2 * ((i - at) / 2) = omega arith in
    rw q (e ((i - at) / 2) (omega arith)))
    (λ (z : (i - at) % 2 ≡ 1). let q : i ≡ at + 2 * ((i - at) / 2) + 1 = omega arith in
    rw q (o ((i - at) / 2) (omega arith)))
    (parity (i - at))

-- ---- pixels of one alpha

-- no pixel is above m
pub record AtMost (m k v : ℕ) : Type 0 where
  pub most : v ≤ m

-- none is below m, and each is a word of four bytes
pub record AtLeast (m k v : ℕ) : Type 0 where
  pub least : m ≤ v
  pub word : v < 4294967296

-- the pixels of a block of one alpha, by the test t
pub alpha-all : {s p : List ℕ} {at a : ℕ} {t : Bool} → Lanes p 16 (PixelIs s at) → (t ≡ true → Lanes p 16 (HasAlpha a))
    → t ≡ true → AllAlpha s at 16 a
alpha-all ep test e = record { all = λ k lt. sym (ep.lane k lt).bytes.p3 ∙ ((test e).lane k lt).is }
