-- Laws of `over_byte`. Assumes nothing.
use mathlib.Core.Path.{◌≡◌, refl, sym, ◌∙◌}
use mathlib.Core.Bool.{Bool, true, false}
use mathlib.Core.Logic.{⊎_elim}
use mathlib.Core.List.{List}
use Prim.Native.Nat.{ℕ, ◌+◌, ◌*◌, ◌/◌, ◌%◌, ◌≤◌, ◌<◌}
use native.Mathlib.Omega.{arith}
use lib.ListN.{get_or}
use borrow.Author.Tests.{eq-eqb, ne_eqb}
use Rattle.lists.specs.Choice.{pick}
use Rattle.lists.specs.Tab.{each}
use Rattle.lists.proofs.Choice.{split}
use Rattle.lists.proofs.Tab.{each-id, each-cong}
use Rattle.mix.specs.Blend.{blend_of}
use Rattle.mix.proofs.BlendLaws.{blend_of-clear, blend_of-opaque}
use Rattle.span.specs.Span.{over_byte}

-- ---- a channel, and the alpha byte

module _ (over : List ℕ) (global : Bool) (alpha : ℕ) where
  -- q is where the pixel's alpha stands
  pub over_byte-channel : (i p q : ℕ) → i % 4 < 3 → q ≡ 4 * (i / 4) + 3
      → over_byte over global alpha i p ≡ blend_of (pick global alpha (get_or over q 0)) (get_or over i 0) p
  unfolding over_byte
  over_byte-channel i p q h e = simp (ne_eqb (i % 4) 3 (λ z. omega arith), e)

  pub over_byte-alpha : (i p : ℕ) → i % 4 ≡ 3 → over_byte over global alpha i p ≡ p
  unfolding over_byte
  over_byte-alpha i p h = simp (eq-eqb (i % 4) 3 h)

  -- two rules that agree on channels are the same
  pub over_byte-cong : (g' : Bool) (a' i p : ℕ) → (i % 4 < 3 → over_byte over global alpha i p ≡ over_byte over g' a' i p)
      → over_byte over global alpha i p ≡ over_byte over g' a' i p
  unfolding over_byte
  over_byte-cong g' a' i p h = ⊎_elim h
      (λ (ge : 3 ≤ i % 4). let e : i % 4 ≡ 3 = omega arith in simp (eq-eqb (i % 4) 3 e))
      (split (i % 4) 3)

-- ---- clear and opaque

module _ (over : List ℕ) where
  pub over_byte-clear : (i p : ℕ) → over_byte over true 0 i p ≡ p
  over_byte-clear i p = ⊎_elim
      (λ (lt : i % 4 < 3). over_byte-channel over true 0 i p (4 * (i / 4) + 3) lt (omega arith)
      ∙ blend_of-clear (get_or over i 0) p)
      (λ (ge : 3 ≤ i % 4). over_byte-alpha over true 0 i p (omega arith))
      (split (i % 4) 3)

  pub over_byte-opaque : (i p : ℕ) → i % 4 < 3 → over_byte over true 255 i p ≡ get_or over i 0
  over_byte-opaque i p lt =
      over_byte-channel over true 255 i p (4 * (i / 4) + 3) lt (omega arith) ∙ blend_of-opaque (get_or over i 0) p

  -- a run at the alpha 0
  pub each-over_byte-clear : (alpha : ℕ) (l : List ℕ) → alpha ≡ 0 → l ≡ each (over_byte over true alpha) l
  each-over_byte-clear alpha l e = rw e (each-id (over_byte over true 0) l over_byte-clear)

  -- a pixel whose own alpha is a
  pub over_byte-own : (i p q a : ℕ) → q ≡ 4 * (i / 4) + 3 → get_or over q 0 ≡ a
      → over_byte over true a i p ≡ over_byte over false 0 i p
  over_byte-own i p q a e h = over_byte-cong over true a false 0 i p
      (λ lt. over_byte-channel over true a i p q lt e ∙ rw (← h) (sym (over_byte-channel over false 0 i p q lt e)))

-- with each pixel of a run at its own alpha the one alpha is not looked at
pub over-own : (run : List ℕ) (alpha : ℕ) (line : List ℕ)
    → each (over_byte run false 0) line ≡ each (over_byte run false alpha) line
unfolding over_byte
over-own run alpha line = each-cong _ _ line (λ i p. refl)
