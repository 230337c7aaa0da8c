-- Lines whose answer is the same for every state, computed. Assumes nothing.
use Prim.Native.Nat.{ℕ}
use mathlib.Core.Path.{◌≡◌, refl}
use mathlib.Core.List.{List, [], ◌∷◌}
use Rattle.display.specs.declared.Display.{Display}
use Rattle.hexadecimal.specs.Hex.{value_of, is_hex, bytes_in, digit_of, digits_of}
use Rattle.texts.specs.Replies.{reply_text}
use Rattle.steps.specs.Form.{count_at, past_loads, writes_place, picture_place, end_place, is_formed}
use Rattle.line.specs.Line.{done_of, outcome_of, Ran, line_of}

-- what bad form leaves: all as it was, and FE is printed
abbrev bad_line : Display → List ℕ → Ran
bad_line d t = record { state = d; tables = t; printed = 70 ∷ 69 ∷ 10 ∷ [] }

-- an empty line
pub line_of-empty : (d : Display) (t : List ℕ) → line_of d t [] ≡ bad_line d t
unfolding is_hex bytes_in digit_of digits_of count_at past_loads writes_place picture_place end_place is_formed done_of outcome_of
    reply_text line_of
line_of-empty d t = refl

-- `0000000000`: a byte after the picture bytes
pub line_of-more : (d : Display) (t : List ℕ)
    → line_of d t (48 ∷ 48 ∷ 48 ∷ 48 ∷ 48 ∷ 48 ∷ 48 ∷ 48 ∷ 48 ∷ 48 ∷ []) ≡ bad_line d t
unfolding value_of is_hex bytes_in digit_of digits_of count_at past_loads writes_place picture_place end_place is_formed done_of
    outcome_of reply_text line_of
line_of-more d t = refl

-- `0000000 `: a space for a digit
pub line_of-space : (d : Display) (t : List ℕ) → line_of d t (48 ∷ 48 ∷ 48 ∷ 48 ∷ 48 ∷ 48 ∷ 48 ∷ 32 ∷ []) ≡ bad_line d t
unfolding value_of is_hex digit_of digits_of outcome_of reply_text line_of
line_of-space d t = refl
