-- What painting asks of a caller, in the states that come to be: 01 "What the display is made of",
-- "Answers by number". Assumes nothing.
use Rattle.std.specs.Prelude.{ℕ, ◌≡◌, true, false, List, Float, length, replicate}
use Rattle.lists.specs.Choice.{or_else}
use Rattle.words.specs.Pictures.{pictures_len}
use Rattle.tables.specs.Geometry.{tables_len}
use Rattle.frames.specs.Frame.{frame_len, output_refusal, tables_refusal, pictures_refusal, floats_refusal}
use Rattle.display.specs.declared.Display.{Display}
use Rattle.display.specs.State.{bits_in}

-- no start has let words in: the active words are still a fresh state's
abbrev pub Unstarted : Display → Type 0
Unstarted d = d.active ≡ replicate 52 0

-- the tables t are as long as the state's bits a glyph pixel ask, the pictures p, the floats f and the output o as the active
-- words do: rows 6, 14, 18 and 13
pub record Fitting (d : Display) (t p : List ℕ) (f : List Float) (o : List ℕ) : Type 0 where
  pub tables : length t ≡ tables_len (bits_in d)
  pub pictures : length p ≡ pictures_len false d.active
  pub floats : length f ≡ pictures_len true d.active
  pub output : length o ≡ frame_len d.active

-- what the buffers are refused with: 13, 6, 14, 18, in this order
abbrev pub buffer_refusal : Display → List ℕ → List ℕ → List Float → List ℕ → ℕ
buffer_refusal d t p f o =
    or_else (output_refusal d.active (length o))
    (or_else (tables_refusal (bits_in d) (length t))
    (or_else (pictures_refusal d.active (length p)) (floats_refusal d.active (length f))))
