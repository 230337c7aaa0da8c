-- What private functions promise of a row under a run, of stretches of blocks and of a block that is copied. Assumes
-- nothing.
use Rattle.std.specs.Prelude.{ℕ, ◌+◌, ◌/◌, ◌≤◌, ◌<◌, Bool, true, List, length}
use Rattle.mix.specs.Pixel.{pixel_len}
use Rattle.sixteen.specs.Engine.Lanes.{block_len, Part, Reach, AllAlpha, Lanes, PixelIs}
use Rattle.span.specs.Span.{over_byte}

-- byte i of a run over a row that goes by the rule f
unfoldable pub lay_byte : List ℕ → Bool → ℕ → (ℕ → ℕ) → ℕ → ℕ
lay_byte over global alpha f i = over_byte over global alpha i (f i)

-- the block of l₀ at `at` with the channels of the pixels p, of whatever run these are
pub record Copied (p : List ℕ) (at : ℕ) (l l₀ : List ℕ) : Type 0 where
  pub over : (s : List ℕ) → Lanes p 16 (PixelIs s at) → Part l l₀ (over_byte s true 255) at (at + block_len)

-- the part from a up to b, of which there is some
pub record Onward (l l₀ : List ℕ) (g : ℕ → ℕ → ℕ) (a b : ℕ) : Type 0 where
  pub reach : Reach l l₀ g a b
  pub some : a < b

-- a block begins at `at` in which all pixels are opaque
pub record OpaqueAt (s : List ℕ) (at : ℕ) : Type 0 where
  pub fits : at + block_len ≤ length s
  pub opaque : AllAlpha s at 16 255

-- each pixel of a run is opaque
abbrev pub Opaque : List ℕ → Type 0
Opaque s = AllAlpha s 0 (length s / pixel_len) 255
