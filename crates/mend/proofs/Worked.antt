-- Lines and their answers, computed. Assumes nothing.
use mathlib.Core.Path.{◌≡◌, refl}
use mathlib.Core.List.{[], ◌∷◌, ◌++◌}
use lib.ListN.{replicate}
use Rattle.lists.specs.Little.{little_at}
use Rattle.lists.specs.Tab.{tab}
use Rattle.words.specs.Check.{screen_of}
use Rattle.words.specs.Image.{words_from}
use Rattle.hexadecimal.specs.Hex.{value_of, is_hex, bytes_in, digit_of, digits_of}
use Rattle.texts.specs.Replies.{reply_text}
use Rattle.repair.specs.Image.{mend_answer}
use Rattle.mend.specs.Line.{mend_reply, line_reply, mend_line}

-- an empty line prints FE
pub mend_line-empty : mend_line [] ≡ 70 ∷ 69 ∷ 10 ∷ []
unfolding digit_of digits_of reply_text line_reply mend_line
mend_line-empty = refl

-- and so does one of 418 digits
pub mend_line-longer : mend_line (replicate 418 48) ≡ 70 ∷ 69 ∷ 10 ∷ []
unfolding digit_of digits_of reply_text line_reply mend_line
mend_line-longer = refl

-- and one with a space for its last digit
pub mend_line-space : mend_line (replicate 415 48 ++ 32 ∷ []) ≡ 70 ∷ 69 ∷ 10 ∷ []
unfolding value_of is_hex digit_of digits_of reply_text line_reply mend_line
mend_line-space = refl

-- an image of zeros has no screen: 08 alone
pub mend_line-screenless : mend_line (replicate 416 48) ≡ 48 ∷ 56 ∷ 10 ∷ []
unfolding little_at tab screen_of words_from value_of is_hex bytes_in digit_of digits_of reply_text mend_answer mend_reply
    line_reply mend_line
mend_line-screenless = refl
