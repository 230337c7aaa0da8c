-- A reply made one part behind the other: the list, an image's reply and a line's, as the code leaves
-- them. Assumes nothing.
use Prim.Native.Nat.{ℕ, ◌+◌, ◌-◌, ◌*◌, ◌/◌, ◌%◌, ◌<◌, ◌≤◌}
use mathlib.Core.Path.{◌≡◌, refl, sym, ap, ◌∙◌}
use mathlib.Core.Bool.{true, false}
use mathlib.Core.List.{List, [], ◌∷◌, ◌++◌, append_assoc, append-nil}
use native.Mathlib.Omega.{arith}
use native.Mathlib.Numerals.{add-one}
use lib.Dec.{eqb}
use lib.ListN.{length, get_or, take, drop, length-take, get_or-append}
use lib.Seq.{length-take-le, take-append-add, take_at}
use borrow.Author.Tests.{eq-eqb, ne_eqb}
use Rattle.std.specs.Int.{to_be_bytes}
use Rattle.std.proofs.Common.{w32}
use Rattle.lists.specs.Choice.{pick}
use Rattle.lists.specs.Over.{over}
use Rattle.lists.proofs.Choice.{pick-keeps}
use Rattle.lists.proofs.Over.{length_over, take-over}
use Rattle.answers.specs.Answers.{done, empty_screen, image_length}
use Rattle.words.specs.Fields.{width_of, height_of}
use Rattle.words.specs.Check.{screen_of}
use Rattle.words.specs.Image.{words_of, image_refusal}
use Rattle.hexadecimal.specs.Hex.{is_hex, bytes_in}
use Rattle.texts.specs.Replies.{four_bytes, bad_form, reply_text}
use Rattle.texts.proofs.PrintLaws.{length-reply_text}
use Rattle.repair.specs.Image.{mend_answer, mend_image, mend_list, mend_count}
use Rattle.repair.proofs.ImageLaws.{mend_list-long, mend_count-le}
use Rattle.mend.specs.Sizes.{image_digits, most_changes, longest_reply, longest_line}
use Rattle.mend.specs.Line.{listed_at, listed_words, mend_reply, line_reply, mend_line}

-- ---- `put`: the part p copied behind the first n bytes of s

pub put_is : (s p c rest : List ℕ) (n : ℕ) → n + length p ≤ length s
    → c ≡ over p (take (length s - n) (drop n s))
    → take (n + length p) (take n s ++ (c ++ rest)) ≡ take n s ++ p
unfolding over
put_is s p c rest n h e =
    let a : length (take n s) ≡ n = length-take-le n s (omega arith) in
    let q : n + length p ≡ length (take n s) + length p = omega arith in
    let more = drop (length p) (take (length s - n) (drop n s)) in
    ap (λ (k : ℕ). take k (take n s ++ (c ++ rest))) q
    ∙ take-append-add (take n s) (c ++ rest) (length p)
    ∙ ap (λ (l : List ℕ). take n s ++ take (length p) (l ++ rest)) e
    ∙ ap (λ (l : List ℕ). take n s ++ take (length p) l) (append_assoc p more rest)
    ∙ ap (λ (l : List ℕ). take n s ++ l) (take_at p (more ++ rest) (length p) refl)

-- ---- `put_changes`: r is the reply before a turn and r' after it, f what stood there first

pub changes-none : (l f : List ℕ) (n : ℕ) → take n f ≡ take n f ++ listed_words 0 l
unfolding listed_words
changes-none l f n = sym (append-nil (take n f))

pub changes-turn : (l f r r' : List ℕ) (i : ℕ) → r ≡ f ++ listed_words i l → r' ≡ r ++ listed_at l (3 * i)
    → r' ≡ f ++ listed_words (i + 1) l
unfolding listed_words
changes-turn l f r r' i e q =
    q ∙ ap (λ (z : List ℕ). z ++ listed_at l (3 * i)) e ∙ append_assoc f (listed_words i l) (listed_at l (3 * i))
    ∙ ap (λ (k : ℕ). f ++ listed_words k l) (sym (add-one i))

pub changes-end : (l f r : List ℕ) (i n : ℕ) → r ≡ f ++ listed_words i l → i ≡ n → r ≡ f ++ listed_words n l
changes-end l f r i n e q = e ∙ ap (λ (k : ℕ). f ++ listed_words k l) q

-- ---- `put_change`: the three parts of a changed word, put behind f one after the other

pub change-put : (l f a b c x y : List ℕ) (at : ℕ) → x ≡ to_be_bytes w32 (get_or l (at + 1) 0)
    → y ≡ to_be_bytes w32 (get_or l (at + 2) 0) → a ≡ f ++ get_or l at 0 % 256 ∷ [] → b ≡ a ++ x → c ≡ b ++ y
    → c ≡ f ++ listed_at l at
change-put l f a b c x y at ex ey ea eb ec =
    ec ∙ rw (eb, ea, ex, ey)
    (append_assoc (f ++ get_or l at 0 % 256 ∷ []) (four_bytes (get_or l (at + 1) 0)) (four_bytes (get_or l (at + 2) 0))
    ∙ append_assoc f (get_or l at 0 % 256 ∷ []) (four_bytes (get_or l (at + 1) 0) ++ four_bytes (get_or l (at + 2) 0)))

-- ---- `reply_to`

-- the list stands at the front of a longer one
get_d_over : (a b : List ℕ) (i : ℕ) → i < length a → get_or (over a b) i 0 ≡ get_or a i 0
unfolding over
get_d_over a b i h = get_or-append a (drop (length a) b) 0 i h

abbrev Byte : ℕ → Type 0
Byte n = n < 256

-- the answer is a byte
pub mend_answer-lt : (image : List ℕ) → mend_answer image < 256
unfolding mend_answer screen_of
mend_answer-lt image =
    let w = words_of image in
    pick-keeps Byte (eqb (image_refusal image) 0) (screen_of w) (image_refusal image)
    (λ _. pick-keeps Byte (eqb (width_of w) 0) empty_screen (pick (eqb (height_of w) 0) empty_screen done)
    (λ _. omega arith)
    (λ _. pick-keeps Byte (eqb (height_of w) 0) empty_screen done (λ _. omega arith) (λ _. omega arith)))
    (λ _. pick-keeps Byte (eqb (length image) 208) done image_length (λ _. omega arith) (λ _. omega arith))

-- there is room for it
pub list-long : (image l l₀ : List ℕ) → 3 * most_changes ≡ length l₀ → l ≡ over (mend_list image) l₀
    → 3 * most_changes ≡ length l
list-long image l l₀ h e =
    h
    ∙ sym (ap length e
    ∙ length_over (mend_list image) l₀ (omega (arith, h, mend_list-long image, mend_count-le image)))

-- and it is the front, which has three numbers for each word
pub list-front : (image l l₀ : List ℕ) (n : ℕ) → l ≡ over (mend_list image) l₀ → n ≡ mend_count image
    → (take (3 * n) l ≡ mend_list image) × (length (take (3 * n) l) / 3 ≡ n)
list-front image l l₀ n el en =
    let long : 3 * n ≡ length (mend_list image) = omega (arith, mend_list-long image) in
    let e : take (3 * n) l ≡ mend_list image = ap (take (3 * n)) el ∙ take-over (mend_list image) l₀ (3 * n) long in
    (e, rw e (omega arith))

module _ (image : List ℕ) (a : ℕ) (ea : a ≡ mend_answer image) where
  pub reply-refused : (r : List ℕ) → (a ≡ done → ⊥) → r ≡ a ∷ [] → r ≡ mend_reply image
  unfolding mend_reply
  reply-refused r h e =
      let k : mend_answer image ≡ done → ⊥ = λ z. h (ea ∙ z) in
      rw (ne_eqb (mend_answer image) done k) (e ∙ ap (λ (n : ℕ). n ∷ []) ea)

  pub reply-done : (i l f r r' : List ℕ) (n : ℕ) → a ≡ done → i ≡ mend_image image → l ≡ mend_list image
      → n ≡ mend_count image → f ≡ a ∷ [] → r ≡ f ++ i → r' ≡ r ++ listed_words n l → r' ≡ mend_reply image
  unfolding mend_reply
  reply-done i l f r r' n h ei el en ef er e =
      let k : mend_answer image ≡ done = sym ea ∙ h in
      rw (eq-eqb (mend_answer image) done k) (e ∙ rw (er, ef, ei, el, en, ea) refl)

-- ---- `answer`: a text and the bytes that it stands for

module _ (x r : List ℕ) where
  pub line-long : (length x ≡ image_digits → ⊥) → r ≡ bad_form ∷ [] → r ≡ line_reply x
  unfolding line_reply
  line-long h e = rw (ne_eqb (length x) image_digits h) e

  pub line-bad : length x ≡ image_digits → is_hex x ≡ false → r ≡ bad_form ∷ [] → r ≡ line_reply x
  unfolding line_reply
  line-bad h g e = rw (eq-eqb (length x) image_digits h, g) e

  pub line-good : (b : List ℕ) → length x ≡ image_digits → is_hex x ≡ true → b ≡ bytes_in x → r ≡ mend_reply b
      → r ≡ line_reply x
  unfolding line_reply
  line-good b h g eb e = rw (eq-eqb (length x) image_digits h, g) (e ∙ ap mend_reply eb)

-- ---- `run_line`

pub line-printed : (x r o₀ o : List ℕ) (n k : ℕ) → take n r ≡ line_reply x → n ≤ longest_reply
    → k ≡ length (reply_text (take n r)) → o ≡ over (reply_text (take n r)) o₀
    → (k ≡ length (mend_line x)) × ((o ≡ over (mend_line x) o₀) × (k ≤ longest_line))
unfolding mend_line
line-printed x r o₀ o n k e h ek eo = (
  ek ∙ ap (λ (l : List ℕ). length (reply_text l)) e,
  (
    eo ∙ ap (λ (l : List ℕ). over (reply_text l) o₀) e,
    omega (arith, ek, length-reply_text (take n r), length-take n r),
  ),
)
