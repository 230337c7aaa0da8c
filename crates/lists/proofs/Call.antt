-- Laws of contracts that are tied to a definition. Assumes nothing.
use mathlib.Core.Path.{◌≡◌, refl, sym, ap, ap₂, ◌∙◌}
use mathlib.Core.Logic.{◌↔◌}
use Rattle.lists.specs.Call.{Call, Tied, Meets, OneOutcome}
use Rattle.lists.proofs.Choice.{meet}

-- ---- what an equation of outcomes says

-- of one part
pub itself : {P : Type 0} → P ↔ P
itself = (λ p. p, λ p. p)

-- of two
pub pair_is : {A B : Type 0} {a x : A} {b y : B} → ((a ≡ x) × (b ≡ y)) ↔ (◌≡◌ {A = A × B} (a, b) (x, y))
pair_is {A} {B} = (
  λ p. ap₂ (λ (u : A) (v : B). (u, v)) p.0 p.1,
  λ q. (ap (λ (z : A × B). z.0) q, ap (λ (z : A × B). z.1) q),
)

-- of three
pub triple-is : {A B C : Type 0} {a x : A} {b y : B} {c z : C}
    → ((a ≡ x) × ((b ≡ y) × (c ≡ z))) ↔ (◌≡◌ {A = A × B × C} (a, b, c) (x, y, z))
triple-is {A} {B} {C} {a} {x} {b} {y} {c} {z} = (
  λ p. ap (λ (u : A). (u, b, c)) p.0 ∙ ap (λ (v : B). (x, v, c)) p.1.0 ∙ ap (λ (w : C). (x, y, w)) p.1.1,
  λ q. (ap (λ (t : A × B × C). t.0) q, (ap (λ (t : A × B × C). t.1) q, ap (λ (t : A × B × C). t.2) q)),
)

-- of four
pub quadruple-is : {A B C D : Type 0} {a x : A} {b y : B} {c z : C} {d w : D}
    → ((a ≡ x) × ((b ≡ y) × ((c ≡ z) × (d ≡ w)))) ↔ (◌≡◌ {A = A × B × C × D} (a, b, c, d) (x, y, z, w))
quadruple-is {A} {B} {C} {D} {a} {x} {b} {y} {c} {z} {d} {w} = (
  λ p. rw (p.0, p.1.0, p.1.1.0, p.1.1.1) refl,
  λ q. (
    ap (λ (t : A × B × C × D). t.0) q,
    (ap (λ (t : A × B × C × D). t.1) q, (ap (λ (t : A × B × C × D). t.2) q, ap (λ (t : A × B × C × D). t.3) q)),
  ),
)

-- ---- from the tie

module _ {X O : Type 0} {c : Call X O} {def : X → O} (t : Tied c def) where
  -- what meets the contract is as defined
  pub tied-meets : {x : X} {o : O} → Meets c x o → o ≡ def x
  tied-meets m =
      sym m.outcome ∙ (t.is m.lifetimes m.args m.answer m.exit).0 m.post ∙ ap def m.input

  -- so there is one outcome
  pub tied-unique : OneOutcome c
  tied-unique x o p m n = meet (tied-meets m) (tied-meets n)
