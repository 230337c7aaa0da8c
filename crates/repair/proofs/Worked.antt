-- Images mended, by computing, and images on which two steps in the other order give another result.
-- Assumes nothing.
use mathlib.Core.Path.{◌≡◌, refl}
use mathlib.Core.List.{List, [], ◌∷◌, ◌++◌}
use Prim.Native.Nat.{ℕ, ◌+◌, ◌*◌}
use lib.ListN.{replicate}
use Rattle.lists.specs.Runs.{first_of, sum_of, run}
use Rattle.lists.specs.Tab.{tab}
use Rattle.lists.specs.Little.{little_at}
use Rattle.lists.specs.Bytes.{little_byte, little_bytes}
use Rattle.lists.specs.Zero.{zero_from}
use Rattle.answers.specs.Answers.{done}
use Rattle.words.specs.Fields.{layer_of}
use Rattle.words.specs.Check.{screen_of, clash_of, clash_at, clash_below}
use Rattle.words.specs.Image.{words_from}
use Rattle.words.specs.Change.{with_off, with_bytes, with_depth, with_pair}
use Rattle.repair.specs.Steps.{cleared_at, cleared, is_twofold, one_kind_at, one_kind, is_empty, empty_off, empties_off}
use Rattle.repair.specs.Steps.{is_large, large_off, larges_off, place_in, size_in, fit_in, fit_at, fit}
use Rattle.repair.specs.Steps.{holds_at, held_at, taken_at, free_of, spread_at, spread, placed, mend_of}
use Rattle.repair.specs.Changes.{changes_of, changes_below, changed_of}
use Rattle.repair.specs.Image.{image_of, mend_answer, mend_image, mend_list, mend_count}

-- ---- images on a screen of 8 by 4

-- a layer: its first word, its corner and its size, the rest 0
abbrev pub layer : ℕ → ℕ → ℕ → List ℕ
layer kind corner size = kind ∷ 0 ∷ corner ∷ size ∷ 0 ∷ 0 ∷ []

-- a frame layer of one pixel at (0, 0), at a depth
abbrev pub dot : ℕ → List ℕ
dot depth = layer (1 + 256 * depth) 0 0x0001_0001

abbrev pub off : List ℕ
off = layer 0 0 0

-- display on and update enabled
abbrev pub image : List ℕ → List ℕ
image layers = 5 ∷ 0x0004_0008 ∷ 0 ∷ 0 ∷ layers

-- the first layer, or the first two, and the others off
abbrev pub one : List ℕ → List ℕ
one l = image (l ++ off ++ off ++ off ++ off ++ off ++ off ++ off)

abbrev pub two : List ℕ → List ℕ → List ℕ
two l m = image (l ++ m ++ off ++ off ++ off ++ off ++ off ++ off)

-- ---- mended

-- the definitions of all steps opened, by one name
unfoldable steps_open : Unit {0}
unfolding mend_of placed cleared cleared_at one_kind one_kind_at is_twofold empties_off empty_off is_empty larges_off large_off
    is_large fit fit_at fit_in place_in size_in spread spread_at free_of taken_at held_at holds_at zero_from first_of clash_below
    clash_at clash_of layer_of with_off with_bytes with_depth with_pair tab run
steps_open = tt

-- all eight layers of depth 3: layer 0 keeps it, the others get those that none had, the smallest first
eight : mend_of (image (dot 3 ++ dot 3 ++ dot 3 ++ dot 3 ++ dot 3 ++ dot 3 ++ dot 3 ++ dot 3))
    ≡ image (dot 3 ++ dot 0 ++ dot 1 ++ dot 2 ++ dot 4 ++ dot 5 ++ dot 6 ++ dot 7)
unfolding steps_open
eight = refl

-- layers 0 and 1 of depth 0 and layer 2 of depth 1: layer 1 gets 2, since layer 2 had 1 when the step began
had : mend_of (image (dot 0 ++ dot 0 ++ dot 1 ++ off ++ off ++ off ++ off ++ off))
    ≡ image (dot 0 ++ dot 2 ++ dot 1 ++ off ++ off ++ off ++ off ++ off)
unfolding steps_open
had = refl

-- one column too far to the right, x 5 and 4 wide; one line too far down, y 1 and 4 high
right : mend_of (one (layer 1 0x0000_0005 0x0001_0004)) ≡ one (layer 1 0x0000_0004 0x0001_0004)
unfolding steps_open
right = refl

below : mend_of (one (layer 1 0x0001_0000 0x0004_0001)) ≡ one (layer 1 0x0000_0000 0x0004_0001)
unfolding steps_open
below = refl

-- at the screen's end, x 4 and 4 wide, y 3 and 1 high: it stays
inside : mend_of (one (layer 1 0x0003_0004 0x0001_0004)) ≡ one (layer 1 0x0003_0004 0x0001_0004)
unfolding steps_open
inside = refl

-- 4,095 both ways at 4,095: a graphics layer is put at 0 and cut, a frame layer is switched off
large-graphics : mend_of (one (layer 3 0x0fff_0fff 0x0fff_0fff)) ≡ one (layer 3 0x0000_0000 0x0004_0008)
unfolding steps_open
large-graphics = refl

large-frame : mend_of (one (layer 1 0x0fff_0fff 0x0fff_0fff)) ≡ one (layer 0 0x0fff_0fff 0x0fff_0fff)
unfolding steps_open
large-frame = refl

-- higher than the screen alone: a graphics layer stays where it lies across
high-graphics : mend_of (one (layer 3 0x0001_0002 0x0005_0001)) ≡ one (layer 3 0x0000_0002 0x0004_0001)
unfolding steps_open
high-graphics = refl

-- no width: switched off where it stands
no-width : mend_of (one (layer 1 0x0fff_0fff 0x0001_0000)) ≡ one (layer 0 0x0fff_0fff 0x0001_0000)
unfolding steps_open
no-width = refl

-- bits 1 and 2 in an enabled layer and in a disabled one: bit 2 is cleared
two-kinds : mend_of (two (layer 7 0 0x0001_0001) (layer 6 0 0)) ≡ two (layer 3 0 0x0001_0001) (layer 2 0 0)
unfolding steps_open
two-kinds = refl

-- bit 2 alone stays, enabled or not
floats-alone : mend_of (two (layer 5 0 0x0001_0001) (layer 4 0 0)) ≡ two (layer 5 0 0x0001_0001) (layer 4 0 0)
unfolding steps_open
floats-alone = refl

-- a float layer is a frame layer: larger than the screen it is switched off, and with bit 1 too it is cut
large-floats : mend_of (one (layer 5 0x0fff_0fff 0x0fff_0fff)) ≡ one (layer 4 0x0fff_0fff 0x0fff_0fff)
unfolding steps_open
large-floats = refl

large-two-kinds : mend_of (one (layer 7 0x0fff_0fff 0x0fff_0fff)) ≡ one (layer 3 0x0000_0000 0x0004_0008)
unfolding steps_open
large-two-kinds = refl

-- with every bit of its other fields set
abbrev full : ℕ → List ℕ
full depth = (3 + 256 * depth) ∷ 0x8000_00ff ∷ 0 ∷ 0x0fff_0fff ∷ 0xffff_ffff ∷ 0x00ff_ffff ∷ []

-- all bits of all words: on a screen of 4,095 by 4,095 eight graphics layers of that size
all_ones : mend_of (replicate 52 0xffff_ffff)
    ≡ 0x5 ∷ 0x0fff_0fff ∷ 0x00ff_ffff ∷ 0xffff_ffff
    ∷ (full 7 ++ full 0 ++ full 1 ++ full 2 ++ full 3 ++ full 4 ++ full 5 ++ full 6)
unfolding steps_open
all_ones = refl

-- an image with a layer that sticks out by one column and another of its depth; what is wanted of it
abbrev pub crooked : List ℕ
crooked = two (layer 1 0x0000_0005 0x0001_0004) (dot 0)

abbrev pub straight : List ℕ
straight = two (layer 1 0x0000_0004 0x0001_0004) (dot 1)

-- the call's definitions opened too
unfoldable call_open : Unit {0}
unfolding steps_open changes_of changes_below changed_of sum_of image_of mend_answer mend_image mend_list mend_count words_from
    little_at little_byte little_bytes screen_of
call_open = tt

-- by the call: the answer, the image, the list of two words, the count
pub crooked-mended : (mend_answer (image_of crooked) ≡ done)
    × ((mend_image (image_of crooked) ≡ image_of straight)
    × ((mend_list (image_of crooked) ≡ 6 ∷ 5 ∷ 4 ∷ 10 ∷ 1 ∷ 0x101 ∷ []) × (mend_count (image_of crooked) ≡ 2)))
unfolding call_open
crooked-mended = (refl, (refl, (refl, refl)))

-- an image that passes, with one layer, is left
abbrev pub lone : List ℕ
lone = one (dot 0)

pub lone-left : mend_image (image_of lone) ≡ image_of lone
unfolding call_open
lone-left = refl

-- ---- where the order of steps matters: in the request's order, and with the two exchanged

-- 3 and 4: a large frame layer is switched off, not cut
three-four : (fit (larges_off (one (layer 1 0 0x0001_0009))) ≡ one (layer 0 0 0x0001_0009))
    × (larges_off (fit (one (layer 1 0 0x0001_0009))) ≡ one (layer 1 0 0x0001_0008))
unfolding steps_open
three-four = (refl, refl)

-- 2 and 4: a layer of no size is not moved
two-four : (fit (empties_off (one (layer 1 9 0x0001_0000))) ≡ one (layer 0 9 0x0001_0000))
    × (empties_off (fit (one (layer 1 9 0x0001_0000))) ≡ one (layer 0 8 0x0001_0000))
unfolding steps_open
two-four = (refl, refl)

-- 2 and 5: a layer that was switched off for its size holds no depth
two-five : (spread (empties_off (two (layer 1 0 0) (dot 0))) ≡ two (layer 0 0 0) (dot 0))
    × (empties_off (spread (two (layer 1 0 0) (dot 0))) ≡ two (layer 0 0 0) (dot 1))
unfolding steps_open
two-five = (refl, refl)

-- 3 and 5: nor one that was too large
three-five : (spread (larges_off (two (layer 1 0 0x0001_0009) (dot 0))) ≡ two (layer 0 0 0x0001_0009) (dot 0))
    × (larges_off (spread (two (layer 1 0 0x0001_0009) (dot 0))) ≡ two (layer 0 0 0x0001_0009) (dot 1))
unfolding steps_open
three-five = (refl, refl)
