-- The ground of a line, and the first layer with it. Assumes nothing.
use mathlib.Core.Path.{◌≡◌, refl, sym, ap, ◌∙◌}
use mathlib.Core.Bool.{true, false}
use mathlib.Core.List.{List, [], ◌∷◌}
use Prim.Native.Nat.{ℕ, zero, suc}
use borrow.Author.Tests.{eqb-true}
use lib.Dec.{eqb}
use lib.ListN.{length}
use Rattle.std.specs.Prelude.{Option, Some, None, is_some}
use Rattle.lists.specs.Tab.{tab, each}
use Rattle.lists.proofs.Choice.{both_left, both_right}
use Rattle.lists.proofs.Tab.{each-id}
use Rattle.mix.specs.declared.Ground.{Ground}
use Rattle.colours.specs.Rows as rows
use Rattle.plan.specs.declared.Step.{Step}
use Rattle.scanline.specs.Engine.Lines.{OnRow, whole_line, ground_byte, under_byte}
use Rattle.scanline.proofs.FitLaws.{on_row_lem}

pub ground-kept : (g : Ground) (out : List ℕ) → out ≡ each (ground_byte g false) out
unfolding ground_byte
ground-kept g out = each-id _ out (λ i p. refl)

pub tab-each : (f : ℕ → ℕ) (l : List ℕ) → tab (length l) f ≡ each (λ i p. f i) l
unfolding tab each
tab-each f [] = refl
tab-each f (p ∷ l) = ap (λ (y : List ℕ). f zero ∷ y) (tab-each (λ i. f (suc i)) l)

pub ground-filled : (g : Ground) (out : List ℕ)
    → tab (length out) (rows.solid_byte g.c0 g.c1 g.c2) ≡ each (ground_byte g true) out
unfolding ground_byte
ground-filled g out = tab-each _ out

-- ---- of a ground that may not be there

pub under-kept : (out : List ℕ) → out ≡ each (under_byte None) out
unfolding under_byte
under-kept out = each-id _ out (λ i p. refl)

pub under-filled : (g : Ground) (out : List ℕ) → tab (length out) (rows.solid_byte g.c0 g.c1 g.c2) ≡ each (under_byte (Some g)) out
unfolding under_byte
under-filled g out = ground-filled g out

pub under-some : (g : Ground) (out : List ℕ) → each (ground_byte g true) out ≡ each (under_byte (Some g)) out
unfolding under_byte
under-some g out = refl

-- it is that ground, of a fresh frame or of another
pub under-is : (o : Option Ground) (g : Ground) → ((h : Ground) → o ≡ Some h → h ≡ g) → (i p : ℕ)
    → under_byte o i p ≡ ground_byte g (is_some o) i p
unfolding under_byte ground_byte
under-is None g e i p = refl
under-is (Some h) g e i p = ap (λ (k : Ground). rows.solid_byte k.c0 k.c1 k.c2 i) (e h refl)

-- a line that was written on has the same ground, where there is one
pub under-anew : (o : Option Ground) (h : Ground) (out out' : List ℕ) → o ≡ Some h → length out' ≡ length out
    → each (under_byte o) out' ≡ each (under_byte o) out
under-anew o h out out' s e =
    rw s
    (sym (under-filled h out') ∙ ap (λ (n : ℕ). tab n (rows.solid_byte h.c0 h.c1 h.c2)) e ∙ under-filled h out)

-- ---- the first layer with it

pub whole-line : (t : Step) (pixels y : ℕ) → whole_line t pixels y ≡ true → (t.wide ≡ pixels) × OnRow t y
unfolding whole_line
whole-line t pixels y e =
    (eqb-true _ _ (both_left (eqb t.wide pixels) _ e), on_row_lem t y (both_right (eqb t.wide pixels) _ e))
