-- Words as bytes and bytes as words: what loops over them leave, and that the one undoes the other.
-- Assumes nothing.
use mathlib.Core.Path.{◌≡◌, refl, sym, ap, ◌∙◌}
use mathlib.Core.List.{List, ◌++◌}
use Prim.Native.Nat.{ℕ, zero, suc, ◌+◌, ◌*◌, ◌/◌, ◌%◌, ◌^◌, ◌-◌, ◌≤◌, ◌<◌}
use native.Mathlib.Nat.{add-zero}
use native.Mathlib.Omega.{arith}
use lib.ListN.{length, get_or, take, drop, set}
use Rattle.lists.specs.Little.{little_at}
use Rattle.lists.specs.Bytes.{little_byte, little_bytes}
use Rattle.lists.specs.Tab.{tab}
use Rattle.lists.proofs.Tab.{get_d-tab, length-tab, is-tab}
use Rattle.lists.proofs.Upto.{Upto, upto-none, upto-set, upto-lent, upto_done}

-- ---- the bytes of a word

byte-0 : (v : ℕ) → v % 256 ≡ little_byte v 0
unfolding little_byte
byte-0 v = omega arith

byte-1 : (v : ℕ) → v / 256 % 256 ≡ little_byte v 1
unfolding little_byte
byte-1 v = omega arith

byte-2 : (v : ℕ) → v / 65536 % 256 ≡ little_byte v 2
unfolding little_byte
byte-2 v = omega arith

byte-3 : (v : ℕ) → v / 16777216 % 256 ≡ little_byte v 3
unfolding little_byte
byte-3 v = omega arith

-- four stores
pub four-set : (l : List ℕ) (v : ℕ) → length l ≡ 4
    → set (set (set (set l 0 (v % 256)) 1 (v / 256 % 256)) 2 (v / 65536 % 256)) 3 (v / 16777216 % 256)
    ≡ tab 4 (little_byte v)
four-set l v e =
    let u1 = upto-set 0 (v % 256) (upto-none l (little_byte v)) refl refl (omega arith) (byte-0 v) in
    let u2 = upto-set 1 (v / 256 % 256) u1 refl refl (omega arith) (byte-1 v) in
    let u3 = upto-set 2 (v / 65536 % 256) u2 refl refl (omega arith) (byte-2 v) in
    let u4 = upto-set 3 (v / 16777216 % 256) u3 refl refl (omega arith) (byte-3 v) in
    upto_done u4 (omega arith) ∙ ap (λ (n : ℕ). tab n (little_byte v)) e

-- ---- a row of words written from the front

-- the bytes of word k of w, from byte 4 k on
word-part : (w part : List ℕ) (o k v : ℕ) → o ≡ 4 * k → v ≡ get_or w k 0 → part ≡ tab 4 (little_byte v)
    → (j : ℕ) → j < 4 → get_or part j 0 ≡ little_bytes w (o + j)
unfolding little_bytes
word-part w part o k v at e p j h =
    let q : (o + j) / 4 ≡ k = omega arith in
    let r : (o + j) % 4 ≡ j = omega arith in
    rw (p, get_d-tab 4 (little_byte v) j h, q, r, e)

-- word i written behind the words before it
pub word-again : {l l₀ : List ℕ} (w part : List ℕ) (i : ℕ) → Upto l l₀ (little_bytes w) (4 * i) → i < length w
    → length l₀ ≡ 4 * length w → part ≡ tab 4 (little_byte (get_or w i 0))
    → Upto (take (4 * i) l ++ (part ++ drop (4 * i + 4 - 4 * i) (drop (4 * i) l))) l₀ (little_bytes w) (4 * (i + 1))
word-again {l} {l₀} w part i u h long p =
    let four : 4 * i + 4 - 4 * i ≡ 4 = omega arith in
    upto-lent part (4 * i) (4 * i + 4 - 4 * i) u refl (omega arith) (omega arith)
    (ap length p ∙ length-tab 4 (little_byte (get_or w i 0)) ∙ sym four)
    (λ j b. word-part w part (4 * i) i (get_or w i 0) refl refl p j (omega arith))

-- all of them, once as many bytes as there are have been written
pub words-bytes : {l l₀ : List ℕ} {k : ℕ} (w : List ℕ) (n : ℕ) → length l₀ ≡ n → n ≤ k → Upto l l₀ (little_bytes w) k
    → l ≡ tab n (little_bytes w)
words-bytes {l} {l₀} {k} w n e h u = upto_done u (omega arith) ∙ ap (λ (m : ℕ). tab m (little_bytes w)) e

-- ---- n words u of a longer row w, from word k on

words-part : (w u part : List ℕ) (o k n : ℕ) → o ≡ 4 * k → ((i : ℕ) → i < n → get_or u i 0 ≡ get_or w (k + i) 0)
    → part ≡ tab (4 * n) (little_bytes u) → (j : ℕ) → j < 4 * n → get_or part j 0 ≡ little_bytes w (o + j)
unfolding little_bytes
words-part w u part o k n at e p j h =
    let q : (o + j) / 4 ≡ k + j / 4 = omega arith in
    let r : (o + j) % 4 ≡ j % 4 = omega arith in
    rw (p, get_d-tab (4 * n) (little_bytes u) j h, q, r, e (j / 4) (omega arith))

-- written behind the words before them
pub words-turn : {l l₀ : List ℕ} (w u part : List ℕ) (o k m b n : ℕ) → o ≡ 4 * k → b ≡ 4 * n → m ≡ o + 4 * n
    → o + 4 * n ≤ length l₀ → ((i : ℕ) → i < n → get_or u i 0 ≡ get_or w (k + i) 0) → Upto l l₀ (little_bytes w) o
    → part ≡ tab (4 * n) (little_bytes u) → Upto (take o l ++ (part ++ drop b (drop o l))) l₀ (little_bytes w) m
words-turn {l} {l₀} w u part o k m b n at bytes to fits e t p =
    upto-lent part o b t refl (omega arith) (omega arith) (ap length p ∙ length-tab (4 * n) (little_bytes u) ∙ sym bytes)
    (λ j h. words-part w u part o k n at e p j (omega arith))

-- ---- the bytes of a row of words, read as words

byte-back : (w : List ℕ) (k n j at : ℕ) → at ≡ 4 * k + j → j < 4 → 4 * k + 4 ≤ n
    → get_or (tab n (little_bytes w)) at 0 ≡ little_byte (get_or w k 0) j
unfolding little_bytes
byte-back w k n j at e h b =
    let q : at / 4 ≡ k = omega arith in
    let r : at % 4 ≡ j = omega arith in
    get_d-tab n (little_bytes w) at (omega arith) ∙ rw (q, r)

-- the upper bytes by one division after another, as their sum needs them
high-2 : (v : ℕ) → little_byte v 2 ≡ v / 256 / 256 % 256
unfolding little_byte
high-2 v = let a : v / 65536 ≡ v / 256 / 256 = omega arith in ap (λ (n : ℕ). n % 256) a

high-3 : (v : ℕ) → v < 2 ^ 32 → little_byte v 3 ≡ v / 256 / 256 / 256
unfolding little_byte
high-3 v h =
    let a : v / 65536 ≡ v / 256 / 256 = omega arith in
    let b : v / 16777216 ≡ v / 65536 / 256 = omega arith in
    let c : v / 16777216 % 256 ≡ v / 16777216 = omega arith in
    c ∙ b ∙ ap (λ (n : ℕ). n / 256) a

byte-off : (v : ℕ) → v ≡ v % 256 + 256 * (v / 256)
byte-off v = omega arith

four-sum : (v a b c r s t : ℕ) → v ≡ r + 256 * a → a ≡ s + 256 * b → b ≡ t + 256 * c
    → r + 2 ^ 8 * s + 2 ^ 16 * t + 2 ^ 24 * c ≡ v
four-sum v a b c r s t e f g = omega arith

-- a word is the sum of its bytes
bytes-sum : (v : ℕ) → v < 2 ^ 32
    → little_byte v 0 + 2 ^ 8 * little_byte v 1 + 2 ^ 16 * little_byte v 2 + 2 ^ 24 * little_byte v 3 ≡ v
bytes-sum v h =
    rw (← byte-0 v, ← byte-1 v, high-2 v, high-3 v h)
    (four-sum v (v / 256) (v / 256 / 256) (v / 256 / 256 / 256) _ _ _ (byte-off v) (byte-off (v / 256))
    (byte-off (v / 256 / 256)))

pub word_back : (w : List ℕ) (k n o : ℕ) → o ≡ 4 * k → 4 * k + 4 ≤ n → get_or w k 0 < 2 ^ 32
    → little_at (tab n (little_bytes w)) o ≡ get_or w k 0
unfolding little_at
word_back w k n o at b h =
    rw (
      byte-back w k n 0 o (omega arith) (omega arith) b,
      byte-back w k n 1 (o + 1) (omega arith) (omega arith) b,
      byte-back w k n 2 (o + 2) (omega arith) (omega arith) b,
      byte-back w k n 3 (o + 3) (omega arith) (omega arith) b,
    )
    (bytes-sum (get_or w k 0) h)

-- ---- and the bytes of words that were read

-- byte j of a word is the one that it was made of
little-digit : (s : List ℕ) → ((i : ℕ) → get_or s i 0 < 256) → (o j : ℕ) → j < 4
    → get_or s (o + j) 0 ≡ little_byte (little_at s o) j
unfolding little_at little_byte
little-digit s b o zero h =
    rw add-zero (digit-0 (get_or s o 0) (get_or s (o + 1) 0) (get_or s (o + 2) 0) (get_or s (o + 3) 0) (b o))
  where
    digit-0 : (x y z w : ℕ) → x < 256 → x ≡ (x + 256 * y + 65536 * z + 16777216 * w) / 1 % 256
    digit-0 x y z w h = omega arith
little-digit s b o (suc zero) h =
    digit-1 (get_or s o 0) (get_or s (o + 1) 0) (get_or s (o + 2) 0) (get_or s (o + 3) 0) (b o) (b (o + 1))
  where
    digit-1 : (x y z w : ℕ) → x < 256 → y < 256 → y ≡ (x + 256 * y + 65536 * z + 16777216 * w) / 256 % 256
    digit-1 x y z w h k = omega arith
little-digit s b o (suc (suc zero)) h =
    digit-2 (get_or s o 0) (get_or s (o + 1) 0) (get_or s (o + 2) 0) (get_or s (o + 3) 0) (b o) (b (o + 1)) (b (o + 2))
  where
    digit-2 : (x y z w : ℕ) → x < 256 → y < 256 → z < 256
        → z ≡ (x + 256 * y + 65536 * z + 16777216 * w) / 65536 % 256
    digit-2 x y z w h k l = omega arith
little-digit s b o (suc (suc (suc zero))) h =
    digit-3 (get_or s o 0) (get_or s (o + 1) 0) (get_or s (o + 2) 0) (get_or s (o + 3) 0) (b o) (b (o + 1)) (b (o + 2))
    (b (o + 3))
  where
    digit-3 : (x y z w : ℕ) → x < 256 → y < 256 → z < 256 → w < 256
        → w ≡ (x + 256 * y + 65536 * z + 16777216 * w) / 16777216 % 256
    digit-3 x y z w h k l m = omega arith
little-digit s b o (suc (suc (suc (suc j)))) h = absurd (omega arith)

pub bytes_back : (s w : List ℕ) (n : ℕ) → length s ≡ 4 * n → ((i : ℕ) → get_or s i 0 < 256)
    → ((k : ℕ) → k < n → get_or w k 0 ≡ little_at s (4 * k)) → s ≡ tab (4 * n) (little_bytes w)
unfolding little_bytes
bytes_back s w n long b e =
    is-tab s (4 * n) (little_bytes w) long
    (λ i h. let q : i ≡ 4 * (i / 4) + i % 4 = omega arith in
    ap (λ (k : ℕ). get_or s k 0) q ∙ little-digit s b (4 * (i / 4)) (i % 4) (omega arith)
    ∙ ap (λ (v : ℕ). little_byte v (i % 4)) (sym (e (i / 4) (omega arith))))

-- ---- the bounds of either

pub little-fits : (s : List ℕ) → ((i : ℕ) → get_or s i 0 < 256) → (o : ℕ) → little_at s o < 2 ^ 32
unfolding little_at
little-fits s b o = omega (arith, b o, b (o + 1), b (o + 2), b (o + 3))
