-- Words with a field of one layer replaced: what they leave alone, and the layer they have then. Assumes
-- nothing.
use mathlib.Core.Path.{◌≡◌, refl, sym, ap, ◌∙◌}
use mathlib.Core.Bool.{Bool, false}
use mathlib.Core.Logic.{◌⊎◌, inl, inr, ⊎_elim}
use mathlib.Core.List.{List}
use Prim.Native.Nat.{ℕ, ◌+◌, ◌*◌, ◌/◌, ◌%◌, ◌^◌, ◌≤◌, ◌<◌}
use native.Mathlib.Nat.{zero-mod, zero-div}
use native.Mathlib.Omega.{arith}
use lib.Bits.{bit_and, and_mod, and_shr}
use lib.ListN.{get_or, set, length, length-set}
use lib.Seq.{get_or-set_same, get_or-set_other, set-get_or}
use Rattle.lists.specs.Runs.{first_of}
use Rattle.lists.proofs.Bits.{no_bits, masked-field}
use Rattle.lists.proofs.Choice.{same_or}
use Rattle.lists.proofs.First.{first-each}
use Rattle.words.specs.declared.fields.Layer.{Layer}
use Rattle.words.specs.Fields.{low_of, high_of, decode, layer_of}
use Rattle.words.specs.Check.{reserved_bits, Plain}
use Rattle.words.specs.Change.{off_word, bytes_word, depth_word, pair_word, with_off, with_bytes, with_depth, with_pair}

-- ---- no reserved bit comes up

-- a word that differs from a plain one in the b bits from k on, of which none is the mask's
field_plain : (k b v u M : ℕ) → u % 2 ^ k ≡ v % 2 ^ k → u / 2 ^ k / 2 ^ b ≡ v / 2 ^ k / 2 ^ b → M / 2 ^ k % 2 ^ b ≡ 0
    → bit_and v M ≡ 0 → bit_and u M ≡ 0
field_plain k b v u M low high m e =
    no_bits (bit_and u M) (2 ^ k)
    (and_mod u M k ∙ ap (λ (z : ℕ). bit_and z (M % 2 ^ k)) low ∙ sym (and_mod v M k) ∙ ap (λ (z : ℕ). z % 2 ^ k) e
    ∙ zero-mod (2 ^ k))
    (no_bits (bit_and u M / 2 ^ k) (2 ^ b) (masked-field k b u M m)
    (above u ∙ ap (λ (z : ℕ). bit_and z (M / 2 ^ k / 2 ^ b)) high ∙ sym (above v)
    ∙ ap (λ (z : ℕ). z / 2 ^ k / 2 ^ b) e ∙ ap (λ (z : ℕ). z / 2 ^ b) (zero-div (2 ^ k)) ∙ zero-div (2 ^ b)))
  where
    above : (x : ℕ) → bit_and x M / 2 ^ k / 2 ^ b ≡ bit_and (x / 2 ^ k / 2 ^ b) (M / 2 ^ k / 2 ^ b)
    above x = ap (λ (z : ℕ). z / 2 ^ b) (and_shr x M k) ∙ and_shr (x / 2 ^ k) (M / 2 ^ k) b

off-plain : (v M : ℕ) → M / 1 % 2 ≡ 0 → bit_and v M ≡ 0 → bit_and (off_word v) M ≡ 0
off-plain v M = field_plain 0 1 v (off_word v) M (omega arith) (omega arith)

bytes-plain : (v M : ℕ) → M / 4 % 2 ≡ 0 → bit_and v M ≡ 0 → bit_and (bytes_word v) M ≡ 0
bytes-plain v M = field_plain 2 1 v (bytes_word v) M (omega arith) (omega arith)

depth-plain : (v d M : ℕ) → d < 8 → M / 256 % 8 ≡ 0 → bit_and v M ≡ 0 → bit_and (depth_word v d) M ≡ 0
depth-plain v d M h = field_plain 8 3 v (depth_word v d) M (omega arith) (omega arith)

pair-plain : (v a b M : ℕ) → a < 4096 → b < 4096 → M / 1 % 4096 ≡ 0 → M / 65536 % 4096 ≡ 0 → bit_and v M ≡ 0
    → bit_and (pair_word v a b) M ≡ 0
pair-plain v a b M p q m n e =
    let u : ℕ = pair_word v a (high_of v) in
    let h : high_of v < 4096 = omega arith in
    let k : v / 4096 % 16 < 16 = omega arith in
    field_plain 16 12 u (pair_word v a b) M
    (below (v / 268435456) (v / 4096 % 16) b p q k ∙ sym (below (v / 268435456) (v / 4096 % 16) (high_of v) p h k))
    (above (v / 268435456) (v / 4096 % 16) b p q k ∙ sym (above (v / 268435456) (v / 4096 % 16) (high_of v) p h k)) n
    (field_plain 0 12 v u M (omega arith) (rest v a p) m e)
  where
    below : (t k b : ℕ) → a < 4096 → b < 4096 → k < 16
        → (t * 268435456 + b * 65536 + k * 4096 + a) % 65536 ≡ k * 4096 + a
    below t k b p q h = omega arith

    above : (t k b : ℕ) → a < 4096 → b < 4096 → k < 16
        → (t * 268435456 + b * 65536 + k * 4096 + a) / 65536 / 4096 ≡ t
    above t k b p q h = omega arith

    rest : (v a : ℕ) → a < 4096 → pair_word v a (high_of v) / 1 / 4096 ≡ v / 1 / 4096
    rest v a p = omega arith

-- the bits of a field are reserved in none of the layers' words j + 6n
pub mask-free : (j k b : ℕ) → first_of 8 (λ n. get_or reserved_bits (j + 6 * n) 0 / 2 ^ k % 2 ^ b) ≡ 0 → (n : ℕ) → n < 8
    → get_or reserved_bits (j + 6 * n) 0 / 2 ^ k % 2 ^ b ≡ 0
mask-free j k b = first-each 8 (λ n. get_or reserved_bits (j + 6 * n) 0 / 2 ^ k % 2 ^ b)

pub on-free : (n : ℕ) → n < 8 → get_or reserved_bits (4 + 6 * n) 0 / 1 % 2 ≡ 0
unfolding first_of
on-free = mask-free 4 0 1 refl

floats-free : (n : ℕ) → n < 8 → get_or reserved_bits (4 + 6 * n) 0 / 4 % 2 ≡ 0
unfolding first_of
floats-free = mask-free 4 2 1 refl

pub depth-free : (n : ℕ) → n < 8 → get_or reserved_bits (4 + 6 * n) 0 / 256 % 8 ≡ 0
unfolding first_of
depth-free = mask-free 4 8 3 refl

pub pair-free : (j n : ℕ) → (j ≡ 6) ⊎ (j ≡ 7) → n < 8
    → (get_or reserved_bits (j + 6 * n) 0 / 1 % 4096 ≡ 0) × (get_or reserved_bits (j + 6 * n) 0 / 65536 % 4096 ≡ 0)
unfolding first_of
pair-free j n (inl e) h = rw e (mask-free 6 0 12 refl n h, mask-free 6 16 12 refl n h)
pair-free j n (inr e) h = rw e (mask-free 7 0 12 refl n h, mask-free 7 16 12 refl n h)

pair-at : (j : ℕ) → (j ≡ 6) ⊎ (j ≡ 7) → (4 ≤ j) × (j ≤ 9)
pair-at j (inl e) = (omega arith, omega arith)
pair-at j (inr e) = (omega arith, omega arith)

-- ---- what stays, where a word of layer n is replaced

pub record Kept (n : ℕ) (v w : List ℕ) : Type 0 where
  pub long : length w ≡ length v
  pub first : (k : ℕ) → k < 4 → get_or w k 0 ≡ get_or v k 0
  pub plain : ((i : ℕ) → i < 52 → Plain v i) → (i : ℕ) → i < 52 → Plain w i
  pub small : ((i : ℕ) → get_or v i 0 < 2 ^ 32) → (i : ℕ) → get_or w i 0 < 2 ^ 32
  pub other : (m : ℕ) → (m ≡ n → ⊥) → layer_of w m ≡ layer_of v m

pub kept-id : (n : ℕ) (v : List ℕ) → Kept n v v
kept-id n v = record { long = refl; first = λ k h. refl; plain = λ p. p; small = λ p. p; other = λ m ne. refl }

pub kept_then : {n : ℕ} {u v w : List ℕ} → Kept n u v → Kept n v w → Kept n u w
kept_then p q =
    record {
      long = q.long ∙ p.long;
      first = λ k h. q.first k h ∙ p.first k h;
      plain = λ f. q.plain (p.plain f);
      small = λ f. q.small (p.small f);
      other = λ m ne. q.other m ne ∙ p.other m ne;
    }

-- a word that is none of layer m's six
pub layer-other : (w : List ℕ) (k m v : ℕ) → ((j : ℕ) → 4 ≤ j → j ≤ 9 → j + 6 * m ≡ k → ⊥)
    → layer_of (set w k v) m ≡ layer_of w m
unfolding layer_of
layer-other w k m v ne =
    rw (
      get_or-set_other w k (4 + 6 * m) v 0 (ne 4 (omega arith) (omega arith)),
      get_or-set_other w k (5 + 6 * m) v 0 (ne 5 (omega arith) (omega arith)),
      get_or-set_other w k (6 + 6 * m) v 0 (ne 6 (omega arith) (omega arith)),
      get_or-set_other w k (7 + 6 * m) v 0 (ne 7 (omega arith) (omega arith)),
      get_or-set_other w k (8 + 6 * m) v 0 (ne 8 (omega arith) (omega arith)),
      get_or-set_other w k (9 + 6 * m) v 0 (ne 9 (omega arith) (omega arith)),
    )

module _ (w : List ℕ) (n : ℕ) (h : n < 8) (long : length w ≡ 52) where
  -- one of its words by one that is plain where the old one was, and of 32 bits where it was
  kept_set : (j v : ℕ) → 4 ≤ j → j ≤ 9 → (Plain w (j + 6 * n) → bit_and v (get_or reserved_bits (j + 6 * n) 0) ≡ 0)
      → (get_or w (j + 6 * n) 0 < 2 ^ 32 → v < 2 ^ 32) → Kept n w (set w (j + 6 * n) v)
  kept_set j v lo hi e s =
      record {
        long = length-set w (j + 6 * n) v;
        first = λ k b. get_or-set_other w (j + 6 * n) k v 0 (λ q. omega arith);
        plain = λ p i b. ⊎_elim
            (λ (q : i ≡ j + 6 * n). rw (q, get_or-set_same w (j + 6 * n) v 0 (omega arith))
            (e (p (j + 6 * n) (omega arith))))
            (λ (ne : i ≡ j + 6 * n → ⊥). rw (get_or-set_other w (j + 6 * n) i v 0 ne) (p i b))
            (same_or i (j + 6 * n));
        small = λ p i. ⊎_elim
            (λ (q : i ≡ j + 6 * n). rw (q, get_or-set_same w (j + 6 * n) v 0 (omega arith)) (s (p (j + 6 * n))))
            (λ (ne : i ≡ j + 6 * n → ⊥). rw (get_or-set_other w (j + 6 * n) i v 0 ne) (p i))
            (same_or i (j + 6 * n));
        other = λ m ne. layer-other w (j + 6 * n) m v (λ i p q r. omega arith);
      }

  pub kept_off : Kept n w (with_off w n)
  unfolding with_off
  kept_off =
      kept_set 4 _ (omega arith) (omega arith) (off-plain (get_or w (4 + 6 * n) 0) _ (on-free n h)) (λ s. omega arith)

  pub kept-bytes : Kept n w (with_bytes w n)
  unfolding with_bytes
  kept-bytes =
      kept_set 4 _ (omega arith) (omega arith) (bytes-plain (get_or w (4 + 6 * n) 0) _ (floats-free n h)) (λ s. omega arith)

  pub kept-depth : (d : ℕ) → d < 8 → Kept n w (with_depth w n d)
  unfolding with_depth
  kept-depth d hd =
      kept_set 4 _ (omega arith) (omega arith) (depth-plain _ d _ hd (depth-free n h)) (λ s. omega arith)

  pub kept_pair : (j a b : ℕ) → (j ≡ 6) ⊎ (j ≡ 7) → a < 4096 → b < 4096 → Kept n w (with_pair j w n a b)
  unfolding with_pair
  kept_pair j a b s p q =
      let f = pair-free j n s h in
      let k = pair-at j s in
      kept_set j _ k.0 k.1 (pair-plain _ a b _ p q f.0 f.1) (λ s. omega arith)

-- ---- the layer itself

-- with other values for what is replaced here
abbrev layer_as : Layer → Bool → Bool → ℕ → ℕ → ℕ → ℕ → ℕ → Layer
layer_as l on floats depth x y width height =
    record {
      on = on;
      graphics = l.graphics;
      floats = floats;
      depth = depth;
      global = l.global;
      value = l.value;
      x = x;
      y = y;
      width = width;
      height = height;
      start = l.start;
      period = l.period;
      target = l.target;
    }

abbrev pub switched_off : Layer → Layer
switched_off l = layer_as l false l.floats l.depth l.x l.y l.width l.height

abbrev pub at_depth : Layer → ℕ → Layer
at_depth l d = layer_as l l.on l.floats d l.x l.y l.width l.height

abbrev pub lying_at : Layer → ℕ → ℕ → ℕ → ℕ → Layer
lying_at l x y a b = layer_as l l.on l.floats l.depth x y a b

abbrev pub of_bytes : Layer → Layer
of_bytes l = layer_as l l.on false l.depth l.x l.y l.width l.height

-- the first word's fields with another depth, and with bit 0 or bit 2 cleared
depth-on : (v d : ℕ) → depth_word v d % 2 ≡ v % 2
depth-on v d = omega arith

depth-graphics : (v d : ℕ) → depth_word v d / 2 % 2 ≡ v / 2 % 2
depth-graphics v d = omega arith

depth-floats : (v d : ℕ) → depth_word v d / 4 % 2 ≡ v / 4 % 2
depth-floats v d = omega arith

depth-depth : (v d : ℕ) → d < 8 → depth_word v d / 256 % 8 ≡ d
depth-depth v d h = omega arith

off-on : (v : ℕ) → off_word v % 2 ≡ 0
off-on v = omega arith

off-graphics : (v : ℕ) → off_word v / 2 % 2 ≡ v / 2 % 2
off-graphics v = let q : v / 2 * 2 / 2 ≡ v / 2 = omega arith in rw q

off-floats : (v : ℕ) → off_word v / 4 % 2 ≡ v / 4 % 2
off-floats v =
    let k : v / 4 * 2 ≤ v / 2 = omega arith in
    let m : v / 2 < v / 4 * 2 + 2 = omega arith in
    let q : v / 2 * 2 / 4 ≡ v / 4 = omega arith in rw q

off-depth : (v : ℕ) → off_word v / 256 % 8 ≡ v / 256 % 8
off-depth v =
    let k : v / 256 * 128 ≤ v / 2 = omega arith in
    let m : v / 2 < v / 256 * 128 + 128 = omega arith in
    let q : v / 2 * 2 / 256 ≡ v / 256 = omega arith in rw q

bytes_on : (v : ℕ) → bytes_word v % 2 ≡ v % 2
bytes_on v = omega arith

bytes-graphics : (v : ℕ) → bytes_word v / 2 % 2 ≡ v / 2 % 2
bytes-graphics v = omega arith

bytes-floats : (v : ℕ) → bytes_word v / 4 % 2 ≡ 0
bytes-floats v = omega arith

bytes-depth : (v : ℕ) → bytes_word v / 256 % 8 ≡ v / 256 % 8
bytes-depth v =
    let k : v / 256 * 32 ≤ v / 8 = omega arith in
    let m : v / 8 < v / 256 * 32 + 32 = omega arith in
    let q : (v / 8 * 8 + v % 4) / 256 ≡ v / 256 = omega arith in rw q

pair-low : (v a b : ℕ) → a < 4096 → b < 4096 → low_of (pair_word v a b) ≡ a
pair-low v a b p q = omega arith

pair-high : (v a b : ℕ) → a < 4096 → b < 4096 → high_of (pair_word v a b) ≡ b
pair-high v a b p q = omega arith

pair-own : (v : ℕ) → pair_word v (low_of v) (high_of v) ≡ v
pair-own v = omega arith

module _ (w : List ℕ) (n : ℕ) (h : n < 8) (long : length w ≡ 52) where
  layer-first : (v : ℕ) → layer_of (set w (4 + 6 * n) v) n
      ≡ decode v (get_or w (5 + 6 * n) 0) (get_or w (6 + 6 * n) 0) (get_or w (7 + 6 * n) 0) (get_or w (8 + 6 * n) 0)
      (get_or w (9 + 6 * n) 0)
  unfolding layer_of
  layer-first v =
      rw (
        get_or-set_same w (4 + 6 * n) v 0 (omega arith),
        get_or-set_other w (4 + 6 * n) (5 + 6 * n) v 0 (λ q. omega arith),
        get_or-set_other w (4 + 6 * n) (6 + 6 * n) v 0 (λ q. omega arith),
        get_or-set_other w (4 + 6 * n) (7 + 6 * n) v 0 (λ q. omega arith),
        get_or-set_other w (4 + 6 * n) (8 + 6 * n) v 0 (λ q. omega arith),
        get_or-set_other w (4 + 6 * n) (9 + 6 * n) v 0 (λ q. omega arith),
      )

  pub with_off-same : layer_of (with_off w n) n ≡ switched_off (layer_of w n)
  unfolding with_off layer_of
  with_off-same =
      layer-first _
      ∙ rw (
        off-on (get_or w (4 + 6 * n) 0),
        off-graphics (get_or w (4 + 6 * n) 0),
        off-floats (get_or w (4 + 6 * n) 0),
        off-depth (get_or w (4 + 6 * n) 0),
      )

  pub with_bytes-same : layer_of (with_bytes w n) n ≡ of_bytes (layer_of w n)
  unfolding with_bytes layer_of
  with_bytes-same =
      layer-first _
      ∙ rw (
        bytes_on (get_or w (4 + 6 * n) 0),
        bytes-graphics (get_or w (4 + 6 * n) 0),
        bytes-floats (get_or w (4 + 6 * n) 0),
        bytes-depth (get_or w (4 + 6 * n) 0),
      )

  own : (d : ℕ)
      → at_depth (layer_of (set w (4 + 6 * n) (depth_word (get_or w (4 + 6 * n) 0) d)) n) 0 ≡ at_depth (layer_of w n) 0
  unfolding layer_of
  own d =
      ap (λ (l : Layer). at_depth l 0) (layer-first (depth_word (get_or w (4 + 6 * n) 0) d))
      ∙ rw (
        depth-on (get_or w (4 + 6 * n) 0) d,
        depth-graphics (get_or w (4 + 6 * n) 0) d,
        depth-floats (get_or w (4 + 6 * n) 0) d,
      )

  pub with_depth-same : (d : ℕ) → d < 8 → layer_of (with_depth w n d) n ≡ at_depth (layer_of w n) d
  unfolding with_depth layer_of
  with_depth-same d hd =
      layer-first _
      ∙ rw (
        depth-on (get_or w (4 + 6 * n) 0) d,
        depth-graphics (get_or w (4 + 6 * n) 0) d,
        depth-floats (get_or w (4 + 6 * n) 0) d,
        depth-depth (get_or w (4 + 6 * n) 0) d hd,
      )

  -- with any number for a depth the layers are what they were but for that
  pub with_depth-alike : (d m : ℕ) → at_depth (layer_of (with_depth w n d) m) 0 ≡ at_depth (layer_of w m) 0
  unfolding with_depth
  with_depth-alike d m = ⊎_elim
      (λ (e : m ≡ n). rw e (own d))
      (λ (ne : m ≡ n → ⊥). ap (λ (l : Layer). at_depth l 0)
      (layer-other w (4 + 6 * n) m _ (λ j lo hi q. ne (omega arith))))
      (same_or m n)

  -- its corner and its size together
  pub fit_same : (x y a b : ℕ) → x < 4096 → y < 4096 → a < 4096 → b < 4096
      → layer_of (with_pair 7 (with_pair 6 w n x y) n a b) n ≡ lying_at (layer_of w n) x y a b
  unfolding with_pair layer_of
  fit_same x y a b hx hy ha hb =
      let p : ℕ = pair_word (get_or w (6 + 6 * n) 0) x y in
      let v : List ℕ = set w (6 + 6 * n) p in
      let u : ℕ = pair_word (get_or v (7 + 6 * n) 0) a b in
      rw (
        get_or-set_same v (7 + 6 * n) u 0 (omega (arith, length-set w (6 + 6 * n) p)),
        get_or-set_other v (7 + 6 * n) (4 + 6 * n) u 0 (λ q. omega arith),
        get_or-set_other v (7 + 6 * n) (5 + 6 * n) u 0 (λ q. omega arith),
        get_or-set_other v (7 + 6 * n) (6 + 6 * n) u 0 (λ q. omega arith),
        get_or-set_other v (7 + 6 * n) (8 + 6 * n) u 0 (λ q. omega arith),
        get_or-set_other v (7 + 6 * n) (9 + 6 * n) u 0 (λ q. omega arith),
        get_or-set_same w (6 + 6 * n) p 0 (omega arith),
        get_or-set_other w (6 + 6 * n) (4 + 6 * n) p 0 (λ q. omega arith),
        get_or-set_other w (6 + 6 * n) (5 + 6 * n) p 0 (λ q. omega arith),
        get_or-set_other w (6 + 6 * n) (8 + 6 * n) p 0 (λ q. omega arith),
        get_or-set_other w (6 + 6 * n) (9 + 6 * n) p 0 (λ q. omega arith),
        pair-low (get_or w (6 + 6 * n) 0) x y hx hy,
        pair-high (get_or w (6 + 6 * n) 0) x y hx hy,
        pair-low (get_or v (7 + 6 * n) 0) a b ha hb,
        pair-high (get_or v (7 + 6 * n) 0) a b ha hb,
      )

-- its own two numbers put again in a word
pair_same : (j : ℕ) (w : List ℕ) (n : ℕ)
    → with_pair j w n (low_of (get_or w (j + 6 * n) 0)) (high_of (get_or w (j + 6 * n) 0)) ≡ w
unfolding with_pair
pair_same j w n = rw (pair-own (get_or w (j + 6 * n) 0)) (set-get_or w (j + 6 * n) 0)

pub corner-own : (w : List ℕ) (n : ℕ) → with_pair 6 w n (layer_of w n).x (layer_of w n).y ≡ w
unfolding layer_of
corner-own w n = pair_same 6 w n

pub size-own : (w : List ℕ) (n : ℕ) → with_pair 7 w n (layer_of w n).width (layer_of w n).height ≡ w
unfolding layer_of
size-own w n = pair_same 7 w n
