-- The starred figures: 01 "Bench figures", "Starred ones are the proved set." Row for row, and no
-- more; and the document's own line. Assumes nothing.
use Rattle.std.specs.Prelude.{ℕ, ◌+◌, ◌*◌, ◌/◌, ◌%◌, ◌^◌, List, [], ◌∷◌, ◌++◌}
use Rattle.mix.specs.Blend.{blend_of}
use Rattle.mix.specs.Fade.{fade_at, fade_of}
use Rattle.draw.specs.Drawing.{index_at}

-- a row: what a definition gives, and what the document says
pub record Figure : Type 0 where
  pub given : ℕ
  pub said : ℕ

-- as one
abbrev gives : ℕ → ℕ → Figure
gives given said = record { given = given; said = said }

-- ---- what the rows speak of

-- "Fade 0 to 255, .. length 4", by its start and the frame
abbrev fade : ℕ → ℕ → ℕ
fade start frame = fade_of 0 255 4 start frame

-- the four bytes of a word, the lowest first
abbrev pub bytes_of : ℕ → List ℕ
bytes_of w = w % 2 ^ 8 ∷ w / 2 ^ 8 % 2 ^ 8 ∷ w / 2 ^ 16 % 2 ^ 8 ∷ w / 2 ^ 24 ∷ []

-- "Box 2..5 by 1..3", of an outline weight and colour 1: an instruction of opcode 10
abbrev box : ℕ → List ℕ
box weight =
    bytes_of (10 * 2 ^ 28 + 5 * 2 ^ 12 + 2) ++ bytes_of 0 ++ bytes_of (weight * 2 ^ 24 + 3 * 2 ^ 12 + 1) ++ bytes_of 1

-- the colour index at (u, v) after that box alone: 0 where it left the pixel, 1 where it drew it
abbrev boxed : ℕ → ℕ → ℕ → ℕ
boxed weight u v = index_at 1 (box weight) [] [] v u

-- "left"
abbrev left : ℕ
left = 0

-- "drawn"
abbrev drawn : ℕ
drawn = 1

-- ---- the table

-- row for row
abbrev pub starred : List Figure
starred =
    -- "Blend (a, over, under)"
    gives (blend_of 128 255 0) 128
    ∷ gives (blend_of 127 255 0) 127
    ∷ gives (blend_of 128 1 0) 1
    ∷ gives (blend_of 127 1 0) 0
    ∷ gives (blend_of 85 200 100) 133
    ∷ gives (blend_of 1 0 255) 254
    -- "Fade 0 to 255, start 100, length 4": frames 101, 103, 104; "Start 4294967294, frame 0"
    ∷ gives (fade 100 101) 64
    ∷ gives (fade 100 103) 191
    ∷ gives (fade 100 104) 255
    ∷ gives (fade 4294967294 0) 128
    -- "255 to 0, length 3, e 1"
    ∷ gives (fade_at 255 0 3 1) 170
    -- "Box 2..5 by 1..3, weight 1: (3,2) .., (2,2) ..", "Weight 2: (3,2) .."
    ∷ gives (boxed 1 3 2) left
    ∷ gives (boxed 1 2 2) drawn
    ∷ gives (boxed 2 3 2) drawn
    ∷ []

-- ---- 01 "Sheet program and host entry": "Input .. prints .."

-- `00030000000005010001000202003020100000`
abbrev pub document_line : List ℕ
document_line =
    48 ∷ 48 ∷ 48 ∷ 51 ∷ 48 ∷ 48 ∷ 48 ∷ 48 ∷ 48 ∷ 48 ∷ 48 ∷ 48 ∷ 48 ∷ 53 ∷ 48 ∷ 49 ∷ 48 ∷ 48
    ∷ 48 ∷ 49 ∷ 48 ∷ 48 ∷ 48 ∷ 50 ∷ 48 ∷ 50 ∷ 48 ∷ 48 ∷ 51 ∷ 48 ∷ 50 ∷ 48 ∷ 49 ∷ 48 ∷ 48 ∷ 48
    ∷ 48 ∷ 48 ∷ []

-- `000000000000020001102030FF102030FF`
abbrev pub document_reply : List ℕ
document_reply =
    48 ∷ 48 ∷ 48 ∷ 48 ∷ 48 ∷ 48 ∷ 48 ∷ 48 ∷ 48 ∷ 48 ∷ 48 ∷ 48 ∷ 48 ∷ 50 ∷ 48 ∷ 48 ∷ 48 ∷ 49
    ∷ 49 ∷ 48 ∷ 50 ∷ 48 ∷ 51 ∷ 48 ∷ 70 ∷ 70 ∷ 49 ∷ 48 ∷ 50 ∷ 48 ∷ 51 ∷ 48 ∷ 70 ∷ 70 ∷ []
