-- An instruction list and the colour index at (u, v) after it: 01 "Graphics layers". "Coordinates u, v
-- count from the layer's corner (house)." Text is drawn from a font of so many bits a pixel. Assumes nothing.
use Rattle.std.specs.Prelude.{ℕ, zero, suc, Bool, List, ltb, eqb}
use Rattle.lists.specs.Choice.{pick}
use Rattle.lists.specs.Zero.{zero_from}
use Rattle.tables.specs.Geometry as geometry
use Rattle.draw.specs.Instruction.{opcode}
use Rattle.draw.specs.Box.{box_of}
use Rattle.draw.specs.Text.{text_of}
use Rattle.draw.specs.declared.ListEnd.{ListEnd}

module _ (bits : ℕ) (ins strings font : List ℕ) where
  -- 01 "Graphics layers": "10 is a box, 12 text, 14 a box and then text over it. All others do nothing,
  -- and other bits count for nothing.": what instruction k makes of what stood there
  unfoldable pub drawn_by : ℕ → ℕ → ℕ → ℕ → ℕ
  drawn_by k v u old =
      pick (eqb (opcode ins k) 10) (box_of ins k v u old)
      (pick (eqb (opcode ins k) 12) (text_of bits ins strings font k v u old)
      (pick (eqb (opcode ins k) 14) (text_of bits ins strings font k v u (box_of ins k v u old)) old))

  -- "Every pixel begins with colour index 0." "later ones overwrite": after the first n instructions
  unfoldable pub drawn_to : ℕ → ℕ → ℕ → ℕ
  drawn_to zero v u = 0
  drawn_to (suc n) v u = drawn_by n v u (drawn_to n v u)

-- "The list runs to the first END or through all 48 instructions": "Opcode 0 ends (000)."
unfoldable pub count_of : List ℕ → ℕ
count_of ins = zero_from geometry.instructions (opcode ins) 0

-- "No END means that painting the layer sets error bit 4n"
unfoldable pub ended_of : List ℕ → Bool
ended_of ins = ltb (count_of ins) geometry.instructions

-- both, as `list_end` answers
abbrev pub list_end : List ℕ → ListEnd
list_end ins = record { found = ended_of ins; count = count_of ins }

-- the colour index at (u, v), by rows
unfoldable pub index_at : ℕ → List ℕ → List ℕ → List ℕ → ℕ → ℕ → ℕ
index_at bits ins strings font v u = drawn_to bits ins strings font (count_of ins) v u
