-- What an outcome's number tells: no refusal has 0, and what a `?` hands on has the number of what was refused.
-- So a row of checks by `?` comes to the first that refuses. Assumes nothing.
use mathlib.Core.Path.{◌≡◌, ap, ◌∙◌}
use Prim.Native.Nat.{ℕ}
use borrow.Author.Tests.{ne_eqb}
use native.Mathlib.Omega.{arith}
use Rattle.std.specs.Prelude.{Result}
use Rattle.std.specs.Result.{IsErrAnd}
use Rattle.std.proofs.lemmas.Result.{err_from_is_err_and}
use Rattle.lists.specs.Choice.{or_else}
use Rattle.answers.specs.declared.Refusal.{Refusal}
use Rattle.answers.specs.declared.Refusal.TheVariants.{NoRegister, NoSelection, NotSelected, BankActive, BankFull, TablesLength}
use Rattle.answers.specs.declared.Refusal.TheVariants.{ReservedBit, EmptyScreen, EmptyLayer, OffScreen, SameDepth, NoSize}
use Rattle.answers.specs.declared.Refusal.TheVariants.{OutputLength, PicturesLength, NoBand, ImageLength, GlyphBits}
use Rattle.answers.specs.declared.Refusal.TheVariants.{FloatsLength, StateLength}
use Rattle.answers.specs.Refusals.{number_of, answer_of}

pub number_of-not_0 : (r : Refusal) → number_of r ≡ 0 → ⊥
number_of-not_0 NoRegister e = omega arith
number_of-not_0 NoSelection e = omega arith
number_of-not_0 NotSelected e = omega arith
number_of-not_0 BankActive e = omega arith
number_of-not_0 BankFull e = omega arith
number_of-not_0 TablesLength e = omega arith
number_of-not_0 ReservedBit e = omega arith
number_of-not_0 EmptyScreen e = omega arith
number_of-not_0 EmptyLayer e = omega arith
number_of-not_0 OffScreen e = omega arith
number_of-not_0 SameDepth e = omega arith
number_of-not_0 NoSize e = omega arith
number_of-not_0 OutputLength e = omega arith
number_of-not_0 PicturesLength e = omega arith
number_of-not_0 NoBand e = omega arith
number_of-not_0 ImageLength e = omega arith
number_of-not_0 GlyphBits e = omega arith
number_of-not_0 FloatsLength e = omega arith
number_of-not_0 StateLength e = omega arith

-- what leaves by a `?` after r
pub answer_of-handed_on : (o : Result Unit Refusal) (r : Refusal) → IsErrAnd o (λ y. y ≡ r) → answer_of o ≡ number_of r
answer_of-handed_on o r h = let p = err_from_is_err_and o h in ap answer_of p.1 ∙ ap number_of p.2

-- of two checks in a row: what the first refuses, and what the second comes to where the first passes
pub earlier : (r : Refusal) (o : Result Unit Refusal) (a b : ℕ) → number_of r ≡ a → IsErrAnd o (λ y. y ≡ r)
    → answer_of o ≡ or_else a b
earlier r o a b e k = answer_of-handed_on o r k ∙ rw (← e, ne_eqb (number_of r) 0 (number_of-not_0 r))

pub later : (n a b : ℕ) → 0 ≡ a → n ≡ b → n ≡ or_else a b
later n a b e k = rw (← e) k
