-- Mending of a register image: 02 K4. Assumes nothing.
use Rattle.std.specs.Prelude.{ℕ, List, [], eqb}
use Rattle.lists.specs.Choice.{pick, choose, or_else}
use Rattle.lists.specs.Bytes.{little_bytes}
use Rattle.lists.specs.Tab.{tab}
use Rattle.answers.specs.Answers.{done}
use Rattle.words.specs.Check.{screen_of}
use Rattle.words.specs.Image.{words_of, image_refusal}
use Rattle.repair.specs.Steps.{mend_of}
use Rattle.repair.specs.Changes.{changes_of, changed_of}

-- the image of words: 208 bytes, "52 little-endian words"
unfoldable pub image_of : List ℕ → List ℕ
image_of w = tab 208 (little_bytes w)

-- "Refusals, with the image kept and no list: 16 first; 8, which has no repair."
unfoldable pub mend_answer : List ℕ → ℕ
mend_answer image = or_else (image_refusal image) (screen_of (words_of image))

unfoldable pub mend_image : List ℕ → List ℕ
mend_image image = choose (eqb (mend_answer image) done) (image_of (mend_of (words_of image))) image

unfoldable pub mend_list : List ℕ → List ℕ
mend_list image = choose (eqb (mend_answer image) done) (changes_of (words_of image) (mend_of (words_of image))) []

-- how many words it lists
unfoldable pub mend_count : List ℕ → ℕ
mend_count image = pick (eqb (mend_answer image) done) (changed_of (words_of image) (mend_of (words_of image))) 0
