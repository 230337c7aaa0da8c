-- An outcome can be read back from its number, so that two outcomes of one number are one. Assumes nothing.
use mathlib.Core.Path.{◌≡◌, refl, sym, ap, ◌∙◌}
use Prim.Native.Nat.{ℕ}
use Rattle.std.specs.Prelude.{List, [], ◌∷◌, get_or, Result, Ok, Err}
use Rattle.answers.specs.declared.Refusal.{Refusal}
use Rattle.answers.specs.declared.Refusal.TheVariants.{NoRegister, NoSelection, NotSelected, BankActive, BankFull, TablesLength}
use Rattle.answers.specs.declared.Refusal.TheVariants.{ReservedBit, EmptyScreen, EmptyLayer, OffScreen, SameDepth, NoSize}
use Rattle.answers.specs.declared.Refusal.TheVariants.{OutputLength, PicturesLength, NoBand, ImageLength, GlyphBits}
use Rattle.answers.specs.declared.Refusal.TheVariants.{FloatsLength, StateLength}
use Rattle.answers.specs.Refusals.{answer_of}

-- the outcomes in the order of their numbers; no outcome has 19 to 22
abbrev outcomes : List (Result Unit Refusal)
outcomes =
    Ok tt ∷ Err NoRegister ∷ Err NoSelection ∷ Err NotSelected ∷ Err BankActive ∷ Err BankFull ∷ Err TablesLength
    ∷ Err ReservedBit ∷ Err EmptyScreen ∷ Err EmptyLayer ∷ Err OffScreen ∷ Err SameDepth ∷ Err NoSize ∷ Err OutputLength
    ∷ Err PicturesLength ∷ Err NoBand ∷ Err ImageLength ∷ Err GlyphBits ∷ Err FloatsLength
    ∷ Ok tt ∷ Ok tt ∷ Ok tt ∷ Ok tt ∷ Err StateLength ∷ []

abbrev read : ℕ → Result Unit Refusal
read n = get_or outcomes n (Ok tt)

read-answer_of : (o : Result Unit Refusal) → read (answer_of o) ≡ o
read-answer_of (Ok tt) = refl
read-answer_of (Err NoRegister) = refl
read-answer_of (Err NoSelection) = refl
read-answer_of (Err NotSelected) = refl
read-answer_of (Err BankActive) = refl
read-answer_of (Err BankFull) = refl
read-answer_of (Err TablesLength) = refl
read-answer_of (Err ReservedBit) = refl
read-answer_of (Err EmptyScreen) = refl
read-answer_of (Err EmptyLayer) = refl
read-answer_of (Err OffScreen) = refl
read-answer_of (Err SameDepth) = refl
read-answer_of (Err NoSize) = refl
read-answer_of (Err OutputLength) = refl
read-answer_of (Err PicturesLength) = refl
read-answer_of (Err NoBand) = refl
read-answer_of (Err ImageLength) = refl
read-answer_of (Err GlyphBits) = refl
read-answer_of (Err FloatsLength) = refl
read-answer_of (Err StateLength) = refl

-- two outcomes of one number
pub answer_of-injective : (o p : Result Unit Refusal) → answer_of o ≡ answer_of p → o ≡ p
answer_of-injective o p e = sym (read-answer_of o) ∙ (ap read e ∙ read-answer_of p)

-- two outcomes that have the number n
pub answer_of-meet : {n : ℕ} {o p : Result Unit Refusal} → answer_of o ≡ n → answer_of p ≡ n → o ≡ p
answer_of-meet {o = o} {p = p} e f = answer_of-injective o p (e ∙ sym f)
