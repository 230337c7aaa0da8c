-- 52 words out of bytes. Assumes nothing.
use Rattle.std.specs.Prelude.{ℕ, ◌+◌, ◌*◌, List, length, eqb}
use Rattle.lists.specs.Choice.{pick}
use Rattle.lists.specs.Little.{little_at}
use Rattle.lists.specs.Tab.{tab}
use Rattle.answers.specs.Answers.{done, image_length}

-- 01 "Sheet program and host entry": "a 208-byte register image (52 little-endian words)", from byte o on
unfoldable pub words_from : List ℕ → ℕ → List ℕ
words_from s o = tab 52 (λ i. little_at s (o + 4 * i))

-- the words of an image
abbrev pub words_of : List ℕ → List ℕ
words_of image = words_from image 0

-- 16: "register image not 208 bytes"
abbrev pub image_refusal : List ℕ → ℕ
image_refusal image = pick (eqb (length image) 208) done image_length
