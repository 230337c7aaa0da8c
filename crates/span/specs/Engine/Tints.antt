-- What private functions promise of colours over a run. Assumes nothing.
use Rattle.std.specs.Prelude.{ℕ, ◌+◌, ◌-◌, ◌*◌, ◌/◌, ◌%◌, ◌≤◌, ◌<◌, ◌≡◌, Bool, false, List, length, get_or, eqb}
use Rattle.lists.specs.Choice.{pick}
use Rattle.mix.specs.Pixel.{pixel_len, alpha_place}
use Rattle.mix.specs.Blend.{blend_of}
use Rattle.sixteen.specs.Engine.Lanes.{block_len}
use Rattle.colours.specs.Rows.{colour_count, word_byte, solid_byte}
use Rattle.colours.specs.Engine.Indexes.{Same}

-- byte i of a run, which held p, with a pixel of the colour c over it, at its own alpha or at one for all
unfoldable pub tint_byte : ℕ → Bool → ℕ → ℕ → ℕ → ℕ
tint_byte c global alpha i p =
    pick (eqb (i % pixel_len) alpha_place) p (blend_of (pick global alpha (c / 16777216)) (word_byte c i) p)

-- the places of a run of so many bytes from a up to b are blocks
pub record Blocks (long a b : ℕ) : Type 0 where
  pub least : a ≤ b
  pub most : b ≤ long
  pub border : a % pixel_len ≡ 0
  pub blocks : (b - a) % block_len ≡ 0

-- the indexes of a line from a up to b, a number of sixteens, are all x
pub record AllSame (line : List ℕ) (a b x : ℕ) : Type 0 where
  pub least : a ≤ b
  pub most : b ≤ length line
  pub sixteens : (b - a) % 16 ≡ 0
  pub same : Same line a (b - a) x

-- the colour of index j + k of a line
pub record ColourIs (line palette : List ℕ) (j k v : ℕ) : Type 0 where
  pub is : v ≡ get_or palette (get_or line (j + k) 0 % colour_count) 0

-- a colour of the palette at another alpha
pub record AlphaIs (palette : List ℕ) (alpha k v : ℕ) : Type 0 where
  pub is : v ≡ get_or palette k 0 % 16777216 + alpha * 16777216

-- the colours of a palette that have by themselves the alphas that they are to have
pub record Shown (palette : List ℕ) (global : Bool) (alpha : ℕ) (shown : List ℕ) : Type 0 where
  pub over : (x i p : ℕ) → x < colour_count
      → tint_byte (get_or shown x 0) false 0 i p ≡ tint_byte (get_or palette x 0) global alpha i p

-- those of a palette over a row of one opaque colour
pub record Grounded (palette : List ℕ) (global : Bool) (alpha c0 c1 c2 : ℕ) (laid : List ℕ) : Type 0 where
  pub bytes : (x i : ℕ) → x < colour_count
      → word_byte (get_or laid x 0) i ≡ tint_byte (get_or palette x 0) global alpha i (solid_byte c0 c1 c2 i)
