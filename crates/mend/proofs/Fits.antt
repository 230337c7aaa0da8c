-- What a line prints has room: 1,355 bytes. Assumes nothing.
use Prim.Native.Nat.{ℕ, zero, suc, ◌*◌, ◌/◌, ◌≤◌}
use mathlib.Core.Path.{◌≡◌, refl}
use mathlib.Core.List.{List, [], ◌∷◌}
use native.Mathlib.Omega.{arith}
use borrow.Author.Tests.{eqb-true}
use lib.Dec.{eqb}
use lib.ListN.{length, length-append}
use Rattle.lists.specs.Choice.{both}
use Rattle.lists.proofs.Choice.{choose-keeps, both_left}
use Rattle.answers.specs.Answers.{done}
use Rattle.hexadecimal.specs.Hex.{is_hex, bytes_in}
use Rattle.texts.proofs.PrintLaws.{length-reply_text}
use Rattle.repair.specs.Image.{mend_answer, mend_list, mend_count}
use Rattle.repair.proofs.ImageLaws.{mend_image-long, mend_count-le}
use Rattle.mend.specs.Sizes.{image_digits, image_bytes, change_len, longest_reply, longest_line}
use Rattle.mend.specs.Line.{listed_words, mend_reply, line_reply, mend_line}

-- two digits for each byte
length-bytes_in : (x : List ℕ) → length (bytes_in x) ≡ length x / 2
unfolding bytes_in
length-bytes_in [] = refl
length-bytes_in (a ∷ []) = refl
length-bytes_in (a ∷ b ∷ x) = omega (arith, length-bytes_in x)

length-listed_words : (n : ℕ) (l : List ℕ) → length (listed_words n l) ≡ change_len * n
unfolding listed_words
length-listed_words zero l = refl
length-listed_words (suc n) l = simp length-append (omega (arith, length-listed_words n l))

mend_reply-le : (image : List ℕ) → length image ≡ image_bytes → length (mend_reply image) ≤ longest_reply
unfolding mend_reply
mend_reply-le image h =
    choose-keeps (λ (l : List ℕ). length (mend_answer image ∷ l) ≤ longest_reply) (eqb (mend_answer image) done) _ _
    (λ t. simp length-append (omega (
      arith,
      mend_image-long image h,
      length-listed_words (mend_count image) (mend_list image),
      mend_count-le image,
    )))
    (λ f. omega arith)

line_reply-le : (x : List ℕ) → length (line_reply x) ≤ longest_reply
unfolding line_reply
line_reply-le x =
    choose-keeps (λ (l : List ℕ). length l ≤ longest_reply) (both (eqb (length x) image_digits) (is_hex x)) _ _
    (λ t.
    let k : length x ≡ image_digits = eqb-true _ _ (both_left (eqb (length x) image_digits) (is_hex x) t) in
    mend_reply-le (bytes_in x) (omega (arith, length-bytes_in x)))
    (λ f. omega arith)

pub mend_line-le : (x : List ℕ) → length (mend_line x) ≤ longest_line
unfolding mend_line
mend_line-le x = omega (arith, length-reply_text (line_reply x), line_reply-le x)
