-- The 52 words read: 01 "Registers". Words are a list of numbers of 32 bits; past its end a word
-- counts as 0. Assumes nothing.
use Rattle.std.specs.Prelude.{ℕ, ◌+◌, ◌*◌, ◌/◌, ◌%◌, ◌^◌, Bool, List, get_or, eqb}
use Rattle.mix.specs.declared.Ground.{Ground}
use Rattle.words.specs.declared.fields.Layer.{Layer}

-- "11:0", the lower of two numbers of 12 bits that share a word. "000 speaks of 4096 pixels, but its 12
-- bit fields end at 4095, and so do we."
abbrev pub low_of : ℕ → ℕ
low_of v = v % 4096

-- "27:16", the upper one
abbrev pub high_of : ℕ → ℕ
high_of v = v / 65536 % 4096

-- word 0: "bit 0 display on"
abbrev pub shown_of : List ℕ → Bool
shown_of w = eqb (get_or w 0 0 % 2) 1

-- "bit 2 update enable"
abbrev pub update_of : List ℕ → Bool
update_of w = eqb (get_or w 0 0 / 4 % 2) 1

-- word 1: "output width 11:0"
abbrev pub width_of : List ℕ → ℕ
width_of w = low_of (get_or w 1 0)

-- "height 27:16"
abbrev pub height_of : List ℕ → ℕ
height_of w = high_of (get_or w 1 0)

-- word 2: "background channel 0 7:0, channel 1 15:8, channel 2 23:16": channel c
abbrev pub ground_of : List ℕ → ℕ → ℕ
ground_of w c = get_or w 2 0 / 256 ^ c % 256

-- all three
abbrev pub grounds_of : List ℕ → Ground
grounds_of w = record { c0 = ground_of w 0; c1 = ground_of w 1; c2 = ground_of w 2 }

-- word 3: "active bank bits of controllers 0..7: instruction 7:0, colour 15:8, text 23:16, font
-- 31:24", the kinds 0 to 3
abbrev pub active_bank_of : List ℕ → ℕ → ℕ → ℕ
active_bank_of w g kind = get_or w 3 0 / 2 ^ (8 * kind + g) % 2

-- word 4+6n: "layer n: bit 0 enabled, bit 1 graphics, depth 10:8", and 02 K7: "Bit 2 of a layer's first word now says that
-- its picture comes from a second lent buffer of f32 numbers"; 5+6n: "bit 31 global alpha, value
-- 7:0"; 6+6n: "x 11:0, y 27:16"; 7+6n: "width 11:0, height 27:16"; 8+6n: "fade start frame, all 32
-- bits"; 9+6n: "fade length 15:0, fade target 23:16"
abbrev pub decode : ℕ → ℕ → ℕ → ℕ → ℕ → ℕ → Layer
decode kind alpha place size begin fade =
    record {
      on = eqb (kind % 2) 1;
      graphics = eqb (kind / 2 % 2) 1;
      floats = eqb (kind / 4 % 2) 1;
      depth = kind / 256 % 8;
      global = eqb (alpha / 2147483648 % 2) 1;
      value = alpha % 256;
      x = low_of place;
      y = high_of place;
      width = low_of size;
      height = high_of size;
      start = begin;
      period = fade % 65536;
      target = fade / 65536 % 256;
    }

-- layer n, of its six words
unfoldable pub layer_of : List ℕ → ℕ → Layer
layer_of w n =
    decode (get_or w (4 + 6 * n) 0) (get_or w (5 + 6 * n) 0) (get_or w (6 + 6 * n) 0) (get_or w (7 + 6 * n) 0)
    (get_or w (8 + 6 * n) 0) (get_or w (9 + 6 * n) 0)
