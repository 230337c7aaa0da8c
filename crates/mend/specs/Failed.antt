-- What a block leaves where writing fails between its turns. Assumes nothing.
use Rattle.std.specs.Prelude.{◌≡◌, ℕ, zero, suc, List, take, drop}
use Rattle.lists.specs.Over.{over}
use Rattle.texts.specs.Lines.{line_in}
use Rattle.mend.specs.Sizes.{image_kept}
use Rattle.mend.specs.Blocks.{answered_of}

-- the text's buffer after n turns of `feed`, each on the bytes that the one before left of l: it was u, and its
-- first `held` bytes had come of the next line
unfoldable pub turns_on : ℕ → List ℕ → ℕ → List ℕ → List ℕ
turns_on zero l held u = u
turns_on (suc n) l held u =
    turns_on n (drop (answered_of (take held u) l).used l) (answered_of (take held u) l).held
    (over (line_in image_kept (take held u) l) u)

-- the text's buffer u' is what some turns on the block l left
abbrev pub LeftBySome : List ℕ → ℕ → List ℕ → List ℕ → Type 0
LeftBySome l held u u' = (n : ℕ) × (u' ≡ turns_on n l held u)
