-- Screens of 2 by 1 pixels on which the laws of painting are worked. Assumes nothing.
use Rattle.std.specs.Prelude.{ℕ, ◌+◌, ◌-◌, ◌*◌, ◌^◌, true, List, [], ◌∷◌, ◌++◌, Float, replicate}
use Rattle.std.specs.Float.{binary32}
use Rattle.std.specs.Float.Ieee.{of_bits}
use Rattle.profiles.specs.Profile.{one_bit}
use Rattle.tables.specs.Geometry.{tables_len}
use Rattle.frames.specs.Scene.{Scene, scene_of}
use Rattle.laws.specs.Figures.{bytes_of}

-- ---- words

-- those of a frame layer of one pixel, at column x of line 0
abbrev pub dot : ℕ → ℕ → List ℕ
dot depth x = (1 + 256 * depth) ∷ 0 ∷ x ∷ (1 + 65536) ∷ 0 ∷ 0 ∷ []

-- the same with a global alpha that fades from 7 at frame 0 to 255 at frame 4
abbrev pub fading : ℕ → ℕ → List ℕ
fading depth x = (1 + 256 * depth) ∷ (2 ^ 31 + 7) ∷ x ∷ (1 + 65536) ∷ 0 ∷ (4 + 65536 * 255) ∷ []

-- a graphics layer of one pixel
abbrev pub figure : ℕ → ℕ → List ℕ
figure depth x = (3 + 256 * depth) ∷ 0 ∷ x ∷ (1 + 65536) ∷ 0 ∷ 0 ∷ []

-- a float layer of one pixel
abbrev pub flow : ℕ → ℕ → List ℕ
flow depth x = (5 + 256 * depth) ∷ 0 ∷ x ∷ (1 + 65536) ∷ 0 ∷ 0 ∷ []

-- 2 by 1 pixels, with a background and two layers
abbrev pub words : ℕ → List ℕ → List ℕ → List ℕ
words below l₀ l₁ = 1 ∷ (2 + 65536) ∷ below ∷ 0 ∷ (l₀ ++ l₁ ++ replicate 36 0)

-- a brown background, and a red one
abbrev pub brown : ℕ
brown = 0x302010

-- the lowest byte is channel 0
abbrev pub red : ℕ
red = 0x0000ff

-- layer 0 under layer 1, beside it
abbrev pub apart : List ℕ
apart = words brown (dot 0 0) (dot 1 1)

-- the same with depths 2 to 4 free between them
abbrev pub wide_apart : List ℕ
wide_apart = words brown (dot 1 0) (dot 5 1)

-- both on one pixel
abbrev pub shared : List ℕ
shared = words brown (dot 0 0) (dot 1 0)

-- the same with the red background
abbrev pub lit : List ℕ
lit = words red (dot 0 0) (dot 1 0)

-- both on one pixel, the upper one fading, with a background
abbrev pub faded : ℕ → List ℕ
faded below = words below (dot 0 0) (fading 1 0)

-- a graphics layer under a frame layer, beside it
abbrev pub drawing : List ℕ
drawing = words brown (figure 0 0) (dot 1 1)

-- a float layer under a frame layer, beside it
abbrev pub flowing : List ℕ
flowing = words brown (flow 0 0) (dot 1 1)

-- ---- pixels

-- of two colours
abbrev pub sand : ℕ → List ℕ
sand alpha = 200 ∷ 100 ∷ 50 ∷ alpha ∷ []

-- nearly black
abbrev pub ink : ℕ → List ℕ
ink alpha = 1 ∷ 2 ∷ 3 ∷ alpha ∷ []

-- 0.5, 1 and 0, and an alpha by its bits
abbrev pub water : ℕ → List Float
water alpha = of_bits binary32 0x3f00_0000 ∷ of_bits binary32 0x3f80_0000 ∷ of_bits binary32 0 ∷ of_bits binary32 alpha ∷ []

-- ---- tables

-- all zero
abbrev pub none : List ℕ
none = replicate (tables_len 1) 0

-- those of layer 0: a box of its one pixel in colour 1, and then END; colour 0 is clear, and colour 1 given
abbrev pub box_in : List ℕ → List ℕ
box_in colour =
    bytes_of (10 * 2 ^ 28) ++ bytes_of 0 ++ bytes_of 0 ++ bytes_of 1 ++ replicate 756 0 ++ colour
    ++ replicate (tables_len 1 - 776) 0

-- ---- scenes

-- at a frame number, with two pictures
abbrev pub scene_at : ℕ → List ℕ → List ℕ → List ℕ → Scene
scene_at frame w p₀ p₁ = scene_of (one_bit true) w frame none (p₀ ++ p₁) []

-- at frame 0
abbrev pub scene_on : List ℕ → List ℕ → List ℕ → Scene
scene_on w p₀ p₁ = scene_at 0 w p₀ p₁

-- both layers half seen, beside each other
abbrev pub beside : Scene
beside = scene_on apart (sand 128) (ink 128)

-- with depths free between them
abbrev pub wide_beside : Scene
wide_beside = scene_on wide_apart (sand 128) (ink 128)

-- on one pixel
abbrev pub halves : Scene
halves = scene_on shared (sand 128) (ink 128)

-- the upper layer of an alpha on the lower one
abbrev pub covered : ℕ → Scene
covered alpha = scene_on shared (sand 128) (ink alpha)

-- the same on another background and another lower layer
abbrev pub relaid : ℕ → Scene
relaid alpha = scene_on lit (ink 7) (ink alpha)

-- the upper layer fading, at a frame number
abbrev pub faded_at : ℕ → Scene
faded_at frame = scene_at frame (faded brown) (sand 128) (ink 0)

-- the same on another background and another lower layer
abbrev pub relaid_at : ℕ → Scene
relaid_at frame = scene_at frame (faded red) (ink 7) (ink 0)

-- layer 0 of an alpha, beside an opaque layer 1
abbrev pub veiled : ℕ → Scene
veiled alpha = scene_on apart (sand alpha) (ink 255)

-- a graphics layer that draws in a colour of an alpha, beside an opaque frame layer
abbrev pub drawn_scene : ℕ → Scene
drawn_scene alpha = scene_of (one_bit true) drawing 0 (box_in (sand alpha)) (ink 255) []

-- a float layer of an alpha, by its bits, beside an opaque frame layer
abbrev pub flow_scene : ℕ → Scene
flow_scene alpha = scene_of (one_bit true) flowing 0 none (ink 255) (water alpha)
