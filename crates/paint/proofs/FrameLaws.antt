-- A filled output, and the cases of a fill. Assumes nothing.
use mathlib.Core.Path.{◌≡◌, refl, ap, ◌∙◌}
use mathlib.Core.List.{List, [], ◌∷◌}
use Prim.Native.Nat.{ℕ, zero, suc, ◌%◌, ◌<◌}
use native.Mathlib.Omega.{arith}
use borrow.Author.Tests.{ne_eqb}
use lib.Dec.{eqb}
use lib.ListN.{length, get_or}
use Rattle.std.specs.Prelude.{Ok, Err}
use Rattle.lists.specs.Choice.{pick}
use Rattle.lists.specs.Tab.{tab}
use Rattle.lists.proofs.Tab.{tab-cong}
use Rattle.answers.specs.Refusals.{number_of}
use Rattle.answers.specs.declared.Refusal.{Refusal}
use Rattle.answers.proofs.Decode.{answer_of-injective}
use Rattle.words.specs.Fields.{ground_of}
use Rattle.colours.specs.Rows as rows
use Rattle.frames.specs.Frame.{frame_len, fill_refusal, fill_byte, fill_of, fill_after}

pub fill-byte : (w : List ℕ) (i : ℕ) → rows.solid_byte (ground_of w 0) (ground_of w 1) (ground_of w 2) i ≡ fill_byte w i
unfolding rows.pixel_byte fill_byte
fill-byte w i = go (i % 4) (omega arith)
  where
    go : (c : ℕ) → c < 4
        → get_or (ground_of w 0 ∷ ground_of w 1 ∷ ground_of w 2 ∷ 255 ∷ []) c 0 ≡ pick (eqb c 3) 255 (ground_of w c)
    go zero h = refl
    go (suc zero) h = refl
    go (suc (suc zero)) h = refl
    go (suc (suc (suc zero))) h = refl
    go (suc (suc (suc (suc c)))) h = absurd (let z : ⊥ = omega arith in z)

pub filled_is : (w out : List ℕ) (n : ℕ) → n ≡ frame_len w
    → out ≡ tab n (rows.solid_byte (ground_of w 0) (ground_of w 1) (ground_of w 2)) → out ≡ fill_of w
unfolding fill_of
filled_is w out n q e =
    e ∙ ap (λ (k : ℕ). tab k (rows.solid_byte (ground_of w 0) (ground_of w 1) (ground_of w 2))) q
    ∙ tab-cong (frame_len w) _ _ (λ i h. fill-byte w i)

-- a refusal has a number that is not 0
pub number-some : (r : Refusal) → number_of r ≡ 0 → ⊥
number-some r e = let q : Err r ≡ Ok tt = answer_of-injective (Err r) (Ok tt) e in cc

pub fill-refused : (w out : List ℕ) (r : Refusal) → number_of r ≡ fill_refusal w (length out) → out ≡ fill_after w out
unfolding fill_after
fill-refused w out r e = rw (← e, ne_eqb (number_of r) 0 (number-some r))

pub fill_done : (w out out' : List ℕ) → 0 ≡ fill_refusal w (length out) → out' ≡ fill_of w → out' ≡ fill_after w out
unfolding fill_after
fill_done w out out' e f = rw (← e) f
