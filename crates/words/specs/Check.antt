-- What is wrong with 52 words: 01 "Answers by number", 7 to 11. Assumes nothing.
use Rattle.std.specs.Prelude.{ℕ, zero, suc, ◌+◌, ◌-◌, ◌≤◌, ◌<◌, ◌≡◌, Bool, true, false, not, List, [], ◌∷◌, ◌++◌, map, get_or, ltb, eqb}
use Rattle.std.specs.Int.Bits.{bit_and}
use Rattle.lists.specs.Choice.{pick, both, or_else}
use Rattle.lists.specs.Runs.{first_of}
use Rattle.answers.specs.Answers.{done, reserved_bit, empty_screen, empty_layer, off_screen, same_depth}
use Rattle.words.specs.declared.fields.Layer.{Layer}
use Rattle.words.specs.Fields.{width_of, height_of, layer_of}

-- ---- 7

-- 01 "Registers", row for row: the bits that are a field's in a layer's six words, 4+6n to 9+6n; 02 K7: bit 2 of the first
abbrev pub layer_bits : List ℕ
layer_bits = 0x0000_0707 ∷ 0x8000_00ff ∷ 0x0fff_0fff ∷ 0x0fff_0fff ∷ 0xffff_ffff ∷ 0x00ff_ffff ∷ []

-- a list n times over
abbrev pub times : ℕ → List ℕ → List ℕ
times zero l = []
times (suc n) l = l ++ times n l

-- in words 0, 1, 2, 3, and then in those of layers 0 to 7
abbrev pub field_bits : List ℕ
field_bits = 0x0000_0005 ∷ 0x0fff_0fff ∷ 0x00ff_ffff ∷ 0xffff_ffff ∷ times 8 layer_bits

-- "Every other bit is reserved."
abbrev pub reserved_bits : List ℕ
reserved_bits = map (λ bits. 0xffff_ffff - bits) field_bits

-- "a reserved bit is set in any pending word"
unfoldable pub reserved_at : List ℕ → ℕ → ℕ
reserved_at w i = pick (eqb (bit_and (get_or w i 0) (get_or reserved_bits i 0)) 0) done reserved_bit

-- 02 K7: "7 now for bits 1 and 2 together but no longer for bit 2 alone, save in the host entry and the sheet program, which
-- have no such buffer", where `floats` says that there is one
unfoldable pub kind_of : Bool → Layer → ℕ
kind_of floats l = pick l.floats (pick (both floats (not l.graphics)) done reserved_bit) done

-- of layer n
unfoldable pub kind_at : Bool → List ℕ → ℕ → ℕ
kind_at floats w n = kind_of floats (layer_of w n)

-- ---- 8

-- "output width or height 0"
unfoldable pub screen_of : List ℕ → ℕ
screen_of w = pick (eqb (width_of w) 0) empty_screen (pick (eqb (height_of w) 0) empty_screen done)

-- ---- 9 and 10

-- "enabled layer with width or height 0", "enabled layer with x+width > output width, or y+height >
-- output height", on a screen of W by H. "Disabled layers are looked at for 7 only."
unfoldable pub place_of : ℕ → ℕ → Layer → ℕ
place_of W H l =
    pick l.on
    (pick (eqb l.width 0) empty_layer
    (pick (eqb l.height 0) empty_layer
    (pick (ltb W (l.x + l.width)) off_screen (pick (ltb H (l.y + l.height)) off_screen done))))
    done

-- of layer n on the words' own screen
unfoldable pub place_at : List ℕ → ℕ → ℕ
place_at w n = place_of (width_of w) (height_of w) (layer_of w n)

-- ---- 11

-- "two enabled layers of one depth"
unfoldable pub clash_of : Layer → Layer → ℕ
clash_of l m = pick l.on (pick m.on (pick (eqb l.depth m.depth) same_depth done) done) done

-- of layers n and m
unfoldable pub clash_at : List ℕ → ℕ → ℕ → ℕ
clash_at w n m = clash_of (layer_of w n) (layer_of w m)

-- of layer n and the first of lower number that is of its depth
unfoldable pub clash_below : List ℕ → ℕ → ℕ
clash_below w n = first_of n (clash_at w n)

-- ---- together

-- "Start 7, 8, then layers 0 to 7 each 9 then 10, then 11."
unfoldable pub check_of : Bool → List ℕ → ℕ
check_of floats w =
    or_else (first_of 52 (reserved_at w))
    (or_else (first_of 8 (kind_at floats w))
    (or_else (screen_of w) (or_else (first_of 8 (place_at w)) (first_of 8 (clash_below w)))))

-- ---- words that pass

-- no reserved bit is set in the word i
abbrev pub Plain : List ℕ → ℕ → Type 0
Plain w i = bit_and (get_or w i 0) (get_or reserved_bits i 0) ≡ 0

-- a layer lies on a screen of W by H
pub record Placed (W H : ℕ) (l : Layer) : Type 0 where
  pub wide : 0 < l.width
  pub tall : 0 < l.height
  pub right : l.x + l.width ≤ W
  pub below : l.y + l.height ≤ H

-- none of 7 to 11, where float layers are let in: so the laws and the rows say that words are accepted. The check passes these
-- words and no others (`check-accepted`, `accepted-check`)
pub record Accepted (w : List ℕ) : Type 0 where
  pub plain : (i : ℕ) → i < 52 → Plain w i
  pub kinds : (n : ℕ) → n < 8 → (layer_of w n).floats ≡ true → (layer_of w n).graphics ≡ false
  pub wide : 0 < width_of w
  pub tall : 0 < height_of w
  pub placed : (n : ℕ) → n < 8 → (layer_of w n).on ≡ true → Placed (width_of w) (height_of w) (layer_of w n)
  pub apart : (n m : ℕ) → n < 8 → m < 8 → (layer_of w n).on ≡ true → (layer_of w m).on ≡ true
      → (layer_of w n).depth ≡ (layer_of w m).depth → n ≡ m

-- no float layer but where they are let in: what the check asks besides (`check-let`)
abbrev pub LetIn : Bool → List ℕ → Type 0
LetIn floats w = (n : ℕ) → n < 8 → (layer_of w n).floats ≡ true → floats ≡ true
