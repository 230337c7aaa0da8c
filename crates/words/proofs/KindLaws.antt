-- A kind is known by its number. Assumes nothing.
use mathlib.Core.Path.{◌≡◌, refl, sym, ap, ◌∙◌}
use Prim.Native.Nat.{ℕ, zero, suc}
use Rattle.words.specs.declared.kinds.Kind.{Kind}
use Rattle.words.specs.declared.kinds.Kind.TheVariants.{List, Colours, Strings, Font}
use Rattle.words.specs.Kinds.{kind_number}

abbrev kind_numbered : ℕ → Kind
kind_numbered zero = List
kind_numbered (suc zero) = Colours
kind_numbered (suc (suc zero)) = Strings
kind_numbered (suc (suc (suc k))) = Font

numbered : (kind : Kind) → kind ≡ kind_numbered (kind_number kind)
numbered List = refl
numbered Colours = refl
numbered Strings = refl
numbered Font = refl

-- no two kinds have one number
pub kind-number-unique : (a b : Kind) → kind_number a ≡ kind_number b → a ≡ b
kind-number-unique a b e = numbered a ∙ ap kind_numbered e ∙ sym (numbered b)
