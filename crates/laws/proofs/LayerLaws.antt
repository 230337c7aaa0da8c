-- The bounds of a layer's fields, and words that stay accepted. Assumes nothing.
use mathlib.Core.Path.{◌≡◌, sym, ap, subst, ◌∙◌}
use mathlib.Core.Bool.{Bool, true}
use mathlib.Core.List.{List}
use Prim.Native.Nat.{ℕ, ◌≤◌, ◌<◌}
use native.Mathlib.Omega.{arith}
use lib.ListN.{get_or}
use Rattle.words.specs.declared.fields.Layer.{Layer}
use Rattle.words.specs.Fields.{width_of, height_of, layer_of}
use Rattle.words.specs.Check.{Placed, Plain, Accepted, LetIn}
use Rattle.words.proofs.ChangeLaws.{at_depth}

pub depth-lt : (w : List ℕ) (n : ℕ) → (layer_of w n).depth < 8
unfolding layer_of
depth-lt w n = omega arith

pub value-le : (w : List ℕ) (n : ℕ) → (layer_of w n).value ≤ 255
unfolding layer_of
value-le w n = omega arith

pub target-le : (w : List ℕ) (n : ℕ) → (layer_of w n).target ≤ 255
unfolding layer_of
target-le w n = omega arith

-- the same layer, but for its depth
abbrev pub Alike : Layer → Layer → Type 0
Alike l k = at_depth l 0 ≡ at_depth k 0

-- both, or neither, is a graphics layer, and so of a float layer
pub record SameKind (l k : Layer) : Type 0 where
  pub graphics : l.graphics ≡ k.graphics
  pub floats : l.floats ≡ k.floats

pub alike-kind : (l k : Layer) → Alike l k → SameKind l k
alike-kind l k e = record { graphics = ap (λ (x : Layer). x.graphics) e; floats = ap (λ (x : Layer). x.floats) e }

pub kinds-let : (floats : Bool) (w w' : List ℕ) → ((n : ℕ) → SameKind (layer_of w' n) (layer_of w n)) → LetIn floats w
    → LetIn floats w'
kinds-let floats w w' kinds l n h f = l n h (sym (kinds n).floats ∙ f)

-- ---- still accepted

-- plain words on the same screen, whose layers are of the kinds that they were, and whose enabled layers lie where they did and
-- have a depth each
pub accepted-alike : (w w' : List ℕ) → Accepted w → ((i : ℕ) → i < 52 → Plain w' i) → get_or w' 1 0 ≡ get_or w 1 0
    → ((n : ℕ) → SameKind (layer_of w' n) (layer_of w n))
    → ((n : ℕ) → (layer_of w' n).on ≡ true → Alike (layer_of w' n) (layer_of w n))
    → ((n m : ℕ) → n < 8 → m < 8 → (layer_of w n).on ≡ true → (layer_of w m).on ≡ true
    → (layer_of w' n).on ≡ true → (layer_of w' m).on ≡ true
    → (layer_of w' n).depth ≡ (layer_of w' m).depth → n ≡ m) → Accepted w'
accepted-alike w w' acc plain one kinds alike apart =
    record {
      plain = plain;
      kinds = λ n h f. (kinds n).graphics ∙ acc.kinds n h (sym (kinds n).floats ∙ f);
      wide = rw one acc.wide;
      tall = rw one acc.tall;
      placed = λ n h o. rw one (un-deep (layer_of w' n)
          (subst (λ (l : Layer). Placed (width_of w) (height_of w) l) (sym (alike n o))
          (re-deep (acc.placed n h (was n o)))));
      apart = λ n m hn hm on om d. apart n m hn hm (was n on) (was m om) on om d;
    }
  where
    was : (n : ℕ) → (layer_of w' n).on ≡ true → (layer_of w n).on ≡ true
    was n o = sym (ap (λ (l : Layer). l.on) (alike n o)) ∙ o

    re-deep : {W H : ℕ} {l : Layer} → Placed W H l → Placed W H (at_depth l 0)
    re-deep p = record { wide = p.wide; tall = p.tall; right = p.right; below = p.below }

    un-deep : {W H : ℕ} (l : Layer) → Placed W H (at_depth l 0) → Placed W H l
    un-deep l p = record { wide = p.wide; tall = p.tall; right = p.right; below = p.below }
