-- The cases of the call, and the laws of mending said of images. Assumes nothing.
use mathlib.Core.Path.{◌≡◌, refl, sym, ap, ◌∙◌}
use mathlib.Core.Bool.{Bool, true, false}
use mathlib.Core.Logic.{⊎_elim}
use mathlib.Core.List.{List, []}
use Prim.Native.Nat.{ℕ, ◌+◌, ◌*◌, ◌^◌, ◌≤◌, ◌<◌}
use native.Mathlib.Omega.{arith}
use borrow.Author.Tests.{eq-eqb, ne_eqb}
use lib.Dec.{eqb}
use lib.ListN.{length, get_or}
use Rattle.lists.specs.Choice.{pick, choose}
use Rattle.lists.specs.Bytes.{little_byte, little_bytes}
use Rattle.lists.specs.Little.{little_at}
use Rattle.lists.specs.Runs.{first_of}
use Rattle.lists.specs.Over.{over}
use Rattle.lists.specs.Tab.{tab}
use Rattle.lists.proofs.Choice.{same_or, pick-keeps, choose-keeps, or_else-left, or_else-right}
use Rattle.lists.proofs.Over.{over_none}
use Rattle.lists.proofs.Tab.{length-tab, get_d-tab, tab-below}
use Rattle.lists.proofs.Little.{bytes_back}
use Rattle.answers.specs.Answers.{done, image_length}
use Rattle.words.specs.Check.{reserved_at, kind_at, screen_of, check_of, LetIn}
use Rattle.words.specs.Image.{words_from, words_of}
use Rattle.words.proofs.ImageLaws.{words_long, words-fit, words_back}
use Rattle.repair.specs.Steps.{mend_of}
use Rattle.repair.specs.Changes.{changes_below, changes_of, changed_of, put_by}
use Rattle.repair.specs.Image.{image_of, mend_answer, mend_image, mend_list, mend_count}
use Rattle.repair.proofs.ListLaws.{length-changes_of, changed_of-le, changes-none, changes_of-put}
use Rattle.repair.proofs.MendLaws.{mend-long, mend-small, mend-passes, mend-passes-bytes, mend-id, mend-twice}

-- ---- the cases

-- the answer a with the image, the list and the count as they are left is the outcome
abbrev Outcome : List ℕ → List ℕ → ℕ → List ℕ → List ℕ → ℕ → Type 0
Outcome image list a image' list' count =
    (a ≡ mend_answer image)
    × ((image' ≡ mend_image image) × ((list' ≡ over (mend_list image) list) × (count ≡ mend_count image)))

module _ (image list : List ℕ) where
  refused : (a : ℕ) → a ≡ mend_answer image → (a ≡ 0 → ⊥) → Outcome image list a image list 0
  unfolding mend_image mend_list mend_count
  refused a e ne =
      let q : eqb (mend_answer image) 0 ≡ false = ne_eqb (mend_answer image) 0 (λ z. ne (e ∙ z)) in
      (e, (rw q refl, (rw q (over_none list), rw q refl)))

  answer-long : length image ≡ 208 → screen_of (words_of image) ≡ mend_answer image
  unfolding mend_answer
  answer-long e = rw (eq-eqb (length image) 208 e) refl

  pub mend-length : (length image ≡ 208 → ⊥) → Outcome image list image_length image list 0
  unfolding mend_answer
  mend-length ne = refused image_length (rw (ne_eqb (length image) 208 ne) refl) (λ z. omega arith)

  module _ (old : List ℕ) (a : ℕ) (long : length image ≡ 208) (o : old ≡ words_of image) (e : a ≡ screen_of old) where
    answered : a ≡ mend_answer image
    answered = e ∙ ap screen_of o ∙ answer-long long

    pub mend-refused : (a ≡ 0 → ⊥) → Outcome image list a image list 0
    mend-refused ne = refused a answered ne

    pub mend-done : (new image' list' : List ℕ) (n : ℕ) → a ≡ 0 → new ≡ mend_of old → length new ≡ 52
        → n ≡ changed_of old new → list' ≡ over (changes_of old new) list
        → image' ≡ tab (4 * length new) (little_bytes new) → Outcome image list 0 image' list' n
    unfolding mend_image mend_list mend_count image_of
    mend-done new image' list' n z w words c l i =
        let p : 0 ≡ mend_answer image = sym z ∙ answered in
        let q : eqb (mend_answer image) 0 ≡ true = eq-eqb (mend_answer image) 0 (sym p) in
        let m : new ≡ mend_of (words_of image) = w ∙ ap mend_of o in (
          p,
          (
            rw (q, ← m) (i ∙ ap (λ (k : ℕ). tab (4 * k) (little_bytes new)) words),
            (rw (q, ← o, ← w) l, rw (q, ← o, ← w) c),
          ),
        )

-- ---- lengths

module _ (image : List ℕ) where
  pub mend_image-long : length image ≡ 208 → length (mend_image image) ≡ 208
  unfolding mend_image image_of
  mend_image-long long =
      choose-keeps (λ (x : List ℕ). length x ≡ 208) (eqb (mend_answer image) 0) (image_of (mend_of (words_of image))) image
      (λ _. length-tab 208 (little_bytes (mend_of (words_of image)))) (λ _. long)

  -- three numbers for each word
  pub mend_list-long : length (mend_list image) ≡ 3 * mend_count image
  unfolding mend_list mend_count
  mend_list-long = go (eqb (mend_answer image) 0)
    where
      go : (t : Bool)
          → length (choose t (changes_of (words_of image) (mend_of (words_of image))) [])
          ≡ 3 * pick t (changed_of (words_of image) (mend_of (words_of image))) 0
      go true = length-changes_of (words_of image) (mend_of (words_of image))
      go false = refl

  pub mend_count-le : mend_count image ≤ 52
  unfolding mend_count
  mend_count-le =
      pick-keeps (λ (n : ℕ). n ≤ 52) (eqb (mend_answer image) 0) (changed_of (words_of image) (mend_of (words_of image))) 0
      (λ _. changed_of-le (words_of image) (mend_of (words_of image))) (λ _. omega arith)

-- ---- images and words

-- the image of the words of an image of bytes is that image
pub image-back : (image : List ℕ) → length image ≡ 208 → ((i : ℕ) → get_or image i 0 < 256)
    → image_of (words_of image) ≡ image
unfolding image_of words_from
image-back image long bytes =
    sym (bytes_back image (words_of image) 52 long bytes (λ k h. get_d-tab 52 (λ i. little_at image (0 + 4 * i)) k h
    ∙ (let q : 0 + 4 * k ≡ 4 * k = omega arith in ap (little_at image) q)))

image-bytes : (w : List ℕ) (i : ℕ) → get_or (image_of w) i 0 < 256
unfolding image_of little_bytes little_byte
image-bytes w = tab-below 208 256 (little_bytes w) (omega arith) (λ i. omega arith)

-- and the words of the image of words of 32 bits are those words
image-words : (w : List ℕ) → length w ≡ 52 → ((i : ℕ) → get_or w i 0 < 2 ^ 32) → words_of (image_of w) ≡ w
unfolding image_of
image-words w long small =
    sym (words_back w w 0 208 0 refl (omega arith) long small
    (λ i h. ap (λ (k : ℕ). get_or w k 0) (let q : i ≡ 0 + i = omega arith in q)))

-- ---- the laws of images: 208 bytes

module _ (image : List ℕ) (long : length image ≡ 208) (bytes : (i : ℕ) → get_or image i 0 < 256) where
  abbrev old : List ℕ
  old = words_of image

  abbrev new : List ℕ
  new = words_of (mend_image image)

  -- one that is refused is left
  image-kept : (mend_answer image ≡ 0 → ⊥) → (mend_image image ≡ image) × (mend_list image ≡ [])
  unfolding mend_image mend_list
  image-kept ne = (rw (ne_eqb (mend_answer image) 0 ne), rw (ne_eqb (mend_answer image) 0 ne))

  module _ (z : mend_answer image ≡ 0) where
    screened : screen_of old ≡ done
    screened = answer-long image [] long ∙ z

    image-done : (mend_image image ≡ image_of (mend_of old)) × (mend_list image ≡ changes_of old (mend_of old))
    unfolding mend_image mend_list
    image-done = (rw (eq-eqb (mend_answer image) 0 z), rw (eq-eqb (mend_answer image) 0 z))

    new-words : new ≡ mend_of old
    new-words =
        ap words_of image-done.0
        ∙ image-words (mend_of old) (mend-long old) (mend-small old (words-fit image bytes 0))

    -- "The result passes every start check"
    pub image-passes : check_of true new ≡ done
    image-passes = rw new-words (mend-passes old screened)

    -- and where float layers are not let in, if there were none
    pub image-passes-bytes : LetIn false old → check_of false new ≡ done
    image-passes-bytes l = rw new-words (mend-passes-bytes old l screened)

    again : mend_image (mend_image image) ≡ mend_image image
    unfolding mend_image
    again =
        choose-keeps (λ (x : List ℕ). x ≡ mend_image image) (eqb (mend_answer (mend_image image)) 0) _ (mend_image image)
        (λ _. ap image_of (ap mend_of new-words ∙ mend-twice old screened) ∙ sym image-done.0) (λ _. refl)

  -- "an image which passes already comes back the same with an empty list", wherever it passes
  pub image-same : (floats : Bool) → check_of floats old ≡ done
      → (mend_answer image ≡ 0) × ((mend_image image ≡ image) × (mend_list image ≡ []))
  unfolding changes_of check_of
  image-same floats e =
      let w : mend_of old ≡ old = mend-id old (words_long image 0) floats e in
      let z : mend_answer image ≡ 0 =
      sym (answer-long image [] long)
      ∙ or_else-left (screen_of old) _
      (or_else-right (first_of 8 (kind_at floats old)) _ (or_else-right (first_of 52 (reserved_at old)) _ e)) in (
        z,
        (
          (image-done z).0 ∙ ap image_of w ∙ image-back image long bytes,
          (image-done z).1 ∙ ap (λ (x : List ℕ). changes_below old x 52) w ∙ changes-none old 52,
        ),
      )

  -- mending twice is mending once
  pub image-twice : mend_image (mend_image image) ≡ mend_image image
  image-twice = ⊎_elim
      (λ (z : mend_answer image ≡ 0). again z)
      (λ (ne : mend_answer image ≡ 0 → ⊥). ap mend_image (image-kept ne).0)
      (same_or (mend_answer image) 0)

  -- the list applied to the old words gives the new ones, and undone the old ones
  list_put : (f : Bool) → put_by f (mend_list image) (choose f old new) ≡ choose f new old
  unfolding put_by
  list_put f = ⊎_elim
      (λ (z : mend_answer image ≡ 0). rw ((image-done z).1, new-words z)
      (changes_of-put f old (mend_of old) (words_long image 0) (mend-long old)))
      (λ (ne : mend_answer image ≡ 0 → ⊥). rw ((image-kept ne).1, (image-kept ne).0) refl)
      (same_or (mend_answer image) 0)

  new-bytes : (i : ℕ) → get_or (mend_image image) i 0 < 256
  unfolding mend_image
  new-bytes =
      choose-keeps (λ (x : List ℕ). (i : ℕ) → get_or x i 0 < 256) (eqb (mend_answer image) 0) _ image
      (λ _. image-bytes (mend_of old)) (λ _. bytes)

  -- so it is of the images
  pub list-forth-image : image_of (put_by true (mend_list image) old) ≡ mend_image image
  list-forth-image = ap image_of (list_put true) ∙ image-back (mend_image image) (mend_image-long image long) new-bytes

  pub list-back-image : image_of (put_by false (mend_list image) new) ≡ image
  list-back-image = ap image_of (list_put false) ∙ image-back image long bytes
