-- What private functions promise of four pixels at once and of indexes that are one. Assumes nothing.
use Rattle.std.specs.Prelude.{ℕ, ◌+◌, ◌-◌, ◌/◌, ◌%◌, ◌<◌, ◌≡◌, List, [], ◌∷◌, get_or}
use Rattle.sixteen.specs.Engine.Lanes.{Bytes}
use Rattle.colours.specs.Rows.{word_byte}

-- byte i of four words as pixels, from `at` on
unfoldable pub words_byte : ℕ → ℕ → ℕ → ℕ → ℕ → ℕ → ℕ
words_byte c0 c1 c2 c3 at i = word_byte (get_or (c0 ∷ c1 ∷ c2 ∷ c3 ∷ []) ((i - at) / 4) 0) i

-- eight bytes of s, from `at` on
pub record EightIs (s : List ℕ) (at v : ℕ) : Type 0 where
  pub low : Bytes (v % 4294967296) (get_or s at 0) (get_or s (at + 1) 0) (get_or s (at + 2) 0) (get_or s (at + 3) 0)
  pub high : Bytes (v / 4294967296) (get_or s (at + 4) 0) (get_or s (at + 4 + 1) 0) (get_or s (at + 4 + 2) 0)
      (get_or s (at + 4 + 3) 0)

-- the n bytes from `at` on are c
pub record Same (s : List ℕ) (at n c : ℕ) : Type 0 where
  pub all : (k : ℕ) → k < n → get_or s (at + k) 0 ≡ c
