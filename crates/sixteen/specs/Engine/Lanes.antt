-- What functions promise of a part of a run and of the words of a block. Assumes nothing.
use Rattle.std.specs.Prelude.{ℕ, ◌+◌, ◌-◌, ◌*◌, ◌/◌, ◌%◌, ◌≤◌, ◌<◌, ◌≡◌, List, length, get_or, eqb}
use Rattle.lists.specs.Choice.{pick}
use Rattle.mix.specs.Pixel.{pixel_len}
use Rattle.mix.specs.Blend.{blend_of}

-- the bytes of a block, which a turn does at once
abbrev pub block_len : ℕ
block_len = 16 * pixel_len

-- ---- parts of a run

-- l is l₀ in which each element p, at its index i from a up to b, has become g i p
pub record Part (l l₀ : List ℕ) (g : ℕ → ℕ → ℕ) (a b : ℕ) : Type 0 where
  pub long : length l ≡ length l₀
  pub new : (i : ℕ) → a ≤ i → i < b → get_or l i 0 ≡ g i (get_or l₀ i 0)
  pub low : (i : ℕ) → i < a → get_or l i 0 ≡ get_or l₀ i 0
  pub high : (i : ℕ) → b ≤ i → get_or l i 0 ≡ get_or l₀ i 0

-- the part from a up to b, which is at a pixel's border within the run
pub record Reach (l l₀ : List ℕ) (g : ℕ → ℕ → ℕ) (a b : ℕ) : Type 0 where
  pub least : a ≤ b
  pub most : b ≤ length l₀
  pub border : b % pixel_len ≡ 0
  pub part : Part l l₀ g a b

-- the same from the front on
abbrev pub Front : List ℕ → List ℕ → (ℕ → ℕ → ℕ) → ℕ → Type 0
Front l l₀ g b = Reach l l₀ g 0 b

-- a rule that goes by the index alone
abbrev pub anew : (ℕ → ℕ) → ℕ → ℕ → ℕ
anew f i p = f i

-- each of the n pixels from `at` has the alpha a
pub record AllAlpha (s : List ℕ) (at n a : ℕ) : Type 0 where
  pub all : (k : ℕ) → k < n → get_or s (at + 4 * k + 3) 0 ≡ a

-- ---- words of a block

-- each of the first n words of w, at its index k, is as P k says
pub record Lanes (w : List ℕ) (n : ℕ) (P : ℕ → ℕ → Type 0) : Type 0 where
  pub lane : (k : ℕ) → k < n → P k (get_or w k 0)

-- a for an even k, b for an odd one
abbrev pub by_parity : ℕ → ℕ → ℕ → ℕ
by_parity k a b = pick (eqb (k % 2) 0) a b

-- two bytes of s: word k of the block at `at`
pub record WordIs (s : List ℕ) (at k v : ℕ) : Type 0 where
  pub low : v % 256 ≡ get_or s (at + 2 * k) 0
  pub high : v / 256 ≡ get_or s (at + 2 * k + 1) 0

-- a word of four bytes
pub record Bytes (v b0 b1 b2 b3 : ℕ) : Type 0 where
  pub p0 : v % 256 ≡ b0
  pub p1 : v / 256 % 256 ≡ b1
  pub p2 : v / 65536 % 256 ≡ b2
  pub p3 : v / 16777216 ≡ b3

-- four bytes of s: pixel k of the block at `at`
pub record PixelIs (s : List ℕ) (at k v : ℕ) : Type 0 where
  pub bytes : Bytes v (get_or s (at + 4 * k) 0) (get_or s (at + 4 * k + 1) 0) (get_or s (at + 4 * k + 2) 0)
      (get_or s (at + 4 * k + 3) 0)

-- the alpha of the pixel of word k: the high byte of that pixel's second word
pub record HighIs (over : List ℕ) (k v : ℕ) : Type 0 where
  pub is : v ≡ get_or over (2 * (k / 2) + 1) 0 / 256
  pub small : v < 256

-- the alpha of a pixel
pub record HasAlpha (a k v : ℕ) : Type 0 where
  pub is : v / 16777216 ≡ a

-- a itself
pub record SameIs (a k v : ℕ) : Type 0 where
  pub is : v ≡ a

-- a byte
pub record Small (k v : ℕ) : Type 0 where
  pub small : v < 256

-- two blended bytes; the high one of an odd word is a pixel's alpha byte, and stays
pub record MixWord (a over under k v : ℕ) : Type 0 where
  pub low : v % 256 ≡ blend_of a (over % 256) (under % 256)
  pub high : v / 256 ≡ blend_of (by_parity k a 0) (over / 256) (under / 256)

-- the same of word k of three arrays
pub record MixIs (alphas over under : List ℕ) (k v : ℕ) : Type 0 where
  pub mix : MixWord (get_or alphas k 0) (get_or over k 0) (get_or under k 0) k v

-- half of a pixel of p
pub record HalfIs (p : List ℕ) (k v : ℕ) : Type 0 where
  pub is : v ≡ by_parity k (get_or p (k / 2) 0 % 65536) (get_or p (k / 2) 0 / 65536)

-- the channels of a pixel of p with the alpha of one of q
pub record JoinIs (p q : List ℕ) (k v : ℕ) : Type 0 where
  pub is : v ≡ get_or p k 0 % 16777216 + get_or q k 0 / 16777216 * 16777216

-- byte i of a block at `at` that holds the words w
unfoldable pub store_byte : List ℕ → ℕ → ℕ → ℕ
store_byte w at i = by_parity (i - at) (get_or w ((i - at) / 2) 0 % 256) (get_or w ((i - at) / 2) 0 / 256)
