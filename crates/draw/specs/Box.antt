-- A box: 01 "Graphics layers". Every rule ends in the arguments `v u old`: row, column, and the colour
-- index that stood there. Assumes nothing.
use Rattle.std.specs.Prelude.{ℕ, ◌-◌, Bool, List, leb, ltb, eqb}
use Rattle.lists.specs.Choice.{pick, both, either}
use Rattle.draw.specs.Instruction.{x_start, x_end, y_start, y_end, weight, box_colour}

-- 01 "Graphics layers": "A box has its ends included; start past end draws nothing."
abbrev pub inside : ℕ → ℕ → ℕ → Bool
inside start end p = both (leb start p) (leb p end)

-- "Weight k draws pixels of the box less than k from one of its four sides, so an edge pixel is at
-- distance 0": from one of two sides. The pixel is inside them wherever this counts.
abbrev pub near : ℕ → ℕ → ℕ → ℕ → Bool
near k start end p = either (ltb (p - start) k) (ltb (end - p) k)

-- "Weight 0 fills. Weight k draws .."
abbrev pub drawn : ℕ → ℕ → ℕ → ℕ → ℕ → ℕ → ℕ → Bool
drawn x0 x1 y0 y1 k v u = either (eqb k 0) (either (near k x0 x1 u) (near k y0 y1 v))

-- a box of a colour, at row v and column u
unfoldable pub box_after : ℕ → ℕ → ℕ → ℕ → ℕ → ℕ → ℕ → ℕ → ℕ → ℕ
box_after x0 x1 y0 y1 k colour v u old =
    pick (both (inside x0 x1 u) (both (inside y0 y1 v) (drawn x0 x1 y0 y1 k v u))) colour old

-- the box of instruction k
unfoldable pub box_of : List ℕ → ℕ → ℕ → ℕ → ℕ → ℕ
box_of ins k v u old =
    box_after (x_start ins k) (x_end ins k) (y_start ins k) (y_end ins k) (weight ins k) (box_colour ins k) v u old
