-- A colour index is below 16, a list's count at most 48, and an empty list leaves index 0.
-- Assumes nothing.
use mathlib.Core.Path.{◌≡◌}
use mathlib.Core.Bool.{Bool}
use mathlib.Core.List.{List}
use Prim.Native.Nat.{ℕ, zero, suc, ◌%◌, ◌≤◌, ◌<◌}
use native.Mathlib.Omega.{arith}
use Rattle.lists.specs.Choice.{pick}
use Rattle.lists.proofs.Choice.{pick-keeps}
use Rattle.lists.proofs.Zero.{zero_from-le}
use Rattle.tables.specs.Geometry.{instructions, colours}
use Rattle.draw.specs.Instruction.{opcode}
use Rattle.draw.specs.Box.{box_after, box_of}
use Rattle.draw.specs.Text.{inked, line_ink, row_after, string_ink, text_after, text_of}
use Rattle.draw.specs.Drawing.{drawn_by, drawn_to, count_of, index_at}

pub count_of-le : (ins : List ℕ) → count_of ins ≤ instructions
unfolding count_of
count_of-le ins = zero_from-le instructions (opcode ins) 0

-- ---- below 16

pick-lt : (t : Bool) {x y : ℕ} → x < colours → y < colours → pick t x y < colours
pick-lt t hx hy = pick-keeps (λ (m : ℕ). m < colours) t _ _ (λ _. hx) (λ _. hy)

mod-colours : (n : ℕ) → n % colours < colours
mod-colours n = omega arith

box_of-lt : (ins : List ℕ) (k v u old : ℕ) → old < colours → box_of ins k v u old < colours
unfolding box_of box_after
box_of-lt ins k v u old h = search (pick-lt, mod-colours) depth 8

text_of-lt : (bits : ℕ) (ins strings font : List ℕ) (k v u old : ℕ) → old < colours
    → text_of bits ins strings font k v u old < colours
unfolding text_of text_after row_after string_ink line_ink inked
text_of-lt bits ins strings font k v u old h = search (pick-lt, mod-colours) depth 8

drawn_by-lt : (bits : ℕ) (ins strings font : List ℕ) (k v u old : ℕ) → old < colours
    → drawn_by bits ins strings font k v u old < colours
unfolding drawn_by
drawn_by-lt bits ins strings font k v u old h = search (pick-lt, box_of-lt, text_of-lt) depth 8

pub drawn_to-lt : (bits : ℕ) (ins strings font : List ℕ) (n v u : ℕ) → drawn_to bits ins strings font n v u < colours
unfolding drawn_to
drawn_to-lt bits ins strings font zero v u = omega arith
drawn_to-lt bits ins strings font (suc n) v u = drawn_by-lt bits ins strings font n v u _ (drawn_to-lt bits ins strings font n v u)

pub index_at-lt : (bits : ℕ) (ins strings font : List ℕ) (v u : ℕ) → index_at bits ins strings font v u < colours
unfolding index_at
index_at-lt bits ins strings font v u = drawn_to-lt bits ins strings font (count_of ins) v u

-- ---- nothing before END

pub index_at-none : (bits : ℕ) (ins strings font : List ℕ) (v u : ℕ) → count_of ins ≡ 0
    → index_at bits ins strings font v u ≡ 0
unfolding index_at drawn_to
index_at-none bits ins strings font v u e = rw e
