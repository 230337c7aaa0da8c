-- What the program prints of a line and of its whole input (house), in the sheet program's manner: an image a
-- line as 416 hexadecimal digits in; out the answer, the mended image and the list; FE for a badly formed
-- line. Assumes nothing.
use Rattle.std.specs.Prelude.{ℕ, zero, suc, ◌+◌, ◌*◌, ◌%◌, List, [], ◌∷◌, ◌++◌, length, get_or, eqb}
use Rattle.lists.specs.Choice.{choose, both}
use Rattle.answers.specs.Answers.{done}
use Rattle.hexadecimal.specs.Hex.{is_hex, bytes_in}
use Rattle.texts.specs.Lines.{lines_from}
use Rattle.texts.specs.Replies.{four_bytes, bad_form, reply_text}
use Rattle.repair.specs.Image.{mend_answer, mend_image, mend_list, mend_count}
use Rattle.mend.specs.Sizes.{image_digits}

-- a changed word as bytes: register (2 digits), old value (8), new value (8), the most significant digit
-- first; they are three numbers of the list, from a place on
abbrev pub listed_at : List ℕ → ℕ → List ℕ
listed_at list at = get_or list at 0 % 256 ∷ four_bytes (get_or list (at + 1) 0) ++ four_bytes (get_or list (at + 2) 0)

-- the first n of them, with nothing between
unfoldable pub listed_words : ℕ → List ℕ → List ℕ
listed_words zero list = []
listed_words (suc n) list = listed_words n list ++ listed_at list (3 * n)

-- the answer; after 00 also the mended image and the list. A refusal prints its number alone, since it has
-- "the image kept and no list" (02 K4)
unfoldable pub mend_reply : List ℕ → List ℕ
mend_reply image =
    mend_answer image
    ∷ choose (eqb (mend_answer image) done) (mend_image image ++ listed_words (mend_count image) (mend_list image)) []

-- a badly formed line prints FE: one that is not 416 digits, or not of digits alone
unfoldable pub line_reply : List ℕ → List ℕ
line_reply text = choose (both (eqb (length text) image_digits) (is_hex text)) (mend_reply (bytes_in text)) (bad_form ∷ [])

-- a line's text in, a line's text out
unfoldable pub mend_line : List ℕ → List ℕ
mend_line text = reply_text (line_reply text)

-- lines in a row
unfoldable pub mend_lines : List (List ℕ) → List ℕ
mend_lines [] = []
mend_lines (text ∷ rest) = mend_line text ++ mend_lines rest

-- what the program prints of its whole input
unfoldable pub mend_text : List ℕ → List ℕ
mend_text bytes = mend_lines (lines_from [] bytes)
