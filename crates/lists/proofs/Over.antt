-- Laws of `over`: a buffer that is written from the front. Assumes nothing.
use mathlib.Core.Path.{◌≡◌, refl, sym, ap, ◌∙◌}
use mathlib.Core.List.{List, [], ◌∷◌, ◌++◌}
use Prim.Native.Nat.{ℕ, suc, ◌≤◌, ◌<◌}
use native.Mathlib.Omega.{arith}
use lib.ListN.{length, get_or, take, drop, set, length-append, length-drop}
use lib.Seq.{drop-cons, set_at, take_at, append_snoc}
use Rattle.lists.specs.Over.{over}

pub over_none : (b : List ℕ) → b ≡ over [] b
unfolding over
over_none b = refl

pub length_over : (a b : List ℕ) → length a ≤ length b → length (over a b) ≡ length b
unfolding over
length_over a b h = simp (length-append, length-drop) (omega arith)

pub take-over : (a b : List ℕ) (n : ℕ) → n ≡ length a → take n (over a b) ≡ a
unfolding over
take-over a b n e = take_at a (drop (length a) b) n (sym e)

-- a store right behind what is written
pub over-set : (a b : List ℕ) (n x : ℕ) → n ≡ length a → n < length b → set (over a b) n x ≡ over (a ++ x ∷ []) b
unfolding over
over-set a b n x e h =
    let k : length a < length b = omega arith in
    let m : suc (length a) ≡ length (a ++ x ∷ []) = simp length-append (omega arith) in
    ap (λ (l : List ℕ). set (a ++ l) n x) (drop-cons b (length a) 0 k)
    ∙ set_at a (get_or b (length a) 0) (drop (suc (length a)) b) x n (sym e)
    ∙ sym (append_snoc a x (drop (suc (length a)) b))
    ∙ ap (λ (j : ℕ). (a ++ x ∷ []) ++ drop j b) m
