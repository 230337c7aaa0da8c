-- Mending of words: 02 K4, "In order: ..", step by step, and after the first the step of 02 K7. Each is a function
-- of words, and all but the first go from layer 0 to layer 7. Assumes nothing.
use Rattle.std.specs.Prelude.{ℕ, ◌+◌, ◌-◌, Bool, not, List, get_or, ltb, eqb}
use Rattle.std.specs.Int.Bits.{bit_and}
use Rattle.lists.specs.Choice.{pick, choose, both, either, or_else}
use Rattle.lists.specs.Runs.{first_of, run}
use Rattle.lists.specs.Tab.{tab}
use Rattle.lists.specs.Zero.{zero_from}
use Rattle.answers.specs.Answers.{done}
use Rattle.words.specs.declared.fields.Layer.{Layer}
use Rattle.words.specs.Fields.{width_of, height_of, layer_of}
use Rattle.words.specs.Order.{here}
use Rattle.words.specs.Check.{reserved_bits, clash_below}
use Rattle.words.specs.Change.{with_off, with_bytes, with_depth, with_pair}

-- ---- 1. "clear reserved bits"

-- word i
unfoldable pub cleared_at : List ℕ → ℕ → ℕ
cleared_at w i = get_or w i 0 - bit_and (get_or w i 0) (get_or reserved_bits i 0)

unfoldable pub cleared : List ℕ → List ℕ
cleared w = tab 52 (cleared_at w)

-- ---- K7. "K4 clears bit 2 where bit 1 is set too": in disabled layers as well, as a start refuses both bits
-- there. The request does not say where it stands among the five, and it does not matter (`mend-kinds-last`)

-- a layer of graphics and of floats at once
unfoldable pub is_twofold : Layer → Bool
is_twofold l = both l.graphics l.floats

-- layer n
unfoldable pub one_kind_at : ℕ → List ℕ → List ℕ
one_kind_at n w = choose (is_twofold (layer_of w n)) (with_bytes w n) w

unfoldable pub one_kind : List ℕ → List ℕ
one_kind w = run 0 8 one_kind_at w

-- ---- 2. "switch off enabled layers of zero size"

unfoldable pub is_empty : Layer → Bool
is_empty l = both l.on (either (eqb l.width 0) (eqb l.height 0))

-- layer n
unfoldable pub empty_off : ℕ → List ℕ → List ℕ
empty_off n w = choose (is_empty (layer_of w n)) (with_off w n) w

unfoldable pub empties_off : List ℕ → List ℕ
empties_off w = run 0 8 empty_off w

-- ---- 3. "switch off an enabled frame layer larger than the screen either way, its other values kept"

-- on a screen of W by H
unfoldable pub is_large : ℕ → ℕ → Layer → Bool
is_large W H l = both l.on (both (not l.graphics) (either (ltb W l.width) (ltb H l.height)))

unfoldable pub large_off : ℕ → List ℕ → List ℕ
large_off n w = choose (is_large (width_of w) (height_of w) (layer_of w n)) (with_off w n) w

unfoldable pub larges_off : List ℕ → List ℕ
larges_off w = run 0 8 large_off w

-- ---- 4. "along each axis, put an enabled layer larger than the screen at 0 and cut it, and move one that
-- sticks out just far enough"

-- along an axis on which the screen has S pixels: where a layer of that size at x comes to lie
unfoldable pub place_in : ℕ → ℕ → ℕ → ℕ
place_in S x size = pick (ltb S size) 0 (pick (ltb S (x + size)) (S - size) x)

-- and its size there
unfoldable pub size_in : ℕ → ℕ → ℕ
size_in S size = pick (ltb S size) S size

-- layer n, which is l, along both
unfoldable pub fit_in : ℕ → ℕ → Layer → ℕ → List ℕ → List ℕ
fit_in W H l n w =
    with_pair 7 (with_pair 6 w n (place_in W l.x l.width) (place_in H l.y l.height)) n
    (size_in W l.width) (size_in H l.height)

unfoldable pub fit_at : ℕ → List ℕ → List ℕ
fit_at n w = choose (layer_of w n).on (fit_in (width_of w) (height_of w) (layer_of w n) n w) w

unfoldable pub fit : List ℕ → List ℕ
fit w = run 0 8 fit_at w

-- ---- 5. "in layer order, an enabled layer whose depth is held by a lower-numbered enabled layer gets the
-- smallest depth that no enabled layer had when this step began and none was given"

-- 1 where layer n is enabled and of depth d, else 0
unfoldable pub holds_at : List ℕ → ℕ → ℕ → ℕ
holds_at w d n = pick (here (layer_of w n) d) 1 0

-- 1 where some layer is, else 0
unfoldable pub held_at : List ℕ → ℕ → ℕ
held_at w d = first_of 8 (holds_at w d)

-- 0 where no enabled layer had depth d when the step began, with the words w₀, and none was given it: who
-- was given it has it, in the words w
unfoldable pub taken_at : List ℕ → List ℕ → ℕ → ℕ
taken_at w₀ w d = or_else (held_at w₀ d) (held_at w d)

-- the smallest such depth; 8 where there is none, which is never so when one is needed (`free-found`)
unfoldable pub free_of : List ℕ → List ℕ → ℕ
free_of w₀ w = zero_from 8 (taken_at w₀ w) 0

-- layer n
unfoldable pub spread_at : List ℕ → ℕ → List ℕ → List ℕ
spread_at w₀ n w = choose (eqb (clash_below w n) done) w (with_depth w n (free_of w₀ w))

unfoldable pub spread : List ℕ → List ℕ
spread w = run 0 8 (spread_at w) w

-- ---- together

-- the first four, and K7's
unfoldable pub placed : List ℕ → List ℕ
placed w = fit (larges_off (empties_off (one_kind (cleared w))))

unfoldable pub mend_of : List ℕ → List ℕ
mend_of w = spread (placed w)
