-- The laws of an instruction and of a list said of whole lines: what the workers draw and the opcode that
-- the code has met give the rule of the definition. Assumes nothing.
use mathlib.Core.Path.{◌≡◌, refl, sym, ap, ◌∙◌}
use mathlib.Core.Logic.{⊎_elim}
use mathlib.Core.Bool.{Bool, true, false}
use mathlib.Core.List.{List}
use Prim.Native.Nat.{ℕ, ◌+◌}
use native.Mathlib.Numerals.{add-one}
use native.Mathlib.Omega.{arith}
use lib.Dec.{eqb}
use lib.ListN.{length, get_or}
use borrow.Author.Tests.{ne_eqb}
use Rattle.lists.specs.Choice.{pick, either}
use Rattle.lists.specs.Tab.{tab, each}
use Rattle.lists.proofs.Choice.{same_or}
use Rattle.lists.proofs.Tab.{is-tab, tab-cong, length-tab, get_d-tab, length-each, get_d-each, each-cong}
use Rattle.lists.proofs.Tab.{each-id, each-then}
use Rattle.draw.specs.Instruction.{opcode}
use Rattle.draw.specs.Box.{box_of}
use Rattle.draw.specs.Text.{text_of}
use Rattle.draw.specs.Drawing.{drawn_by, drawn_to, count_of, index_at}
use Rattle.draw.specs.Engine.Rows.{run_after}
use Rattle.draw.proofs.RunLaws.{run_in}

-- ---- an instruction

-- whether an opcode draws a box, and whether text
abbrev boxed : ℕ → Bool
boxed op = either (eqb op 10) (eqb op 14)

abbrev lettered : ℕ → Bool
lettered op = either (eqb op 12) (eqb op 14)

module _ (ins : List ℕ) (k v op : ℕ) (l : List ℕ) where
  -- what an instruction's box leaves, if it has one
  abbrev under : ℕ → ℕ → ℕ
  under u old = pick (boxed op) (box_of ins k v u old) old

  -- the line with the box, and whether text is to come
  abbrev pub Under : List ℕ → Bool → Type 0
  Under l' text = (l' ≡ each under l) × (text ≡ lettered op)

  module _ {l' : List ℕ} {text : Bool} where
    pub under-box : {l'' : List ℕ} → op ≡ 10 → l'' ≡ each (box_of ins k v) l → l' ≡ l'' → text ≡ false → Under l' text
    under-box e b q t = (rw e (q ∙ b), rw e t)

    pub under-both : {l'' : List ℕ} → op ≡ 14 → l'' ≡ each (box_of ins k v) l → l' ≡ l'' → text ≡ true → Under l' text
    under-both e b q t = (rw e (q ∙ b), rw e t)

    pub under-text : op ≡ 12 → l' ≡ l → text ≡ true → Under l' text
    under-text e q t = (q ∙ each-id _ l (λ u old. rw e), rw e t)

    pub under_none : (op ≡ 10 → ⊥) → (op ≡ 12 → ⊥) → (op ≡ 14 → ⊥) → l' ≡ l → text ≡ false → Under l' text
    under_none a b c q t = (
      q ∙ each-id _ l (λ u old. rw (ne_eqb _ 10 a, ne_eqb _ 14 c)),
      t ∙ rw (ne_eqb _ 12 b, ne_eqb _ 14 c),
    )

module _ (bits : ℕ) (ins strings font : List ℕ) (k v op : ℕ) (l : List ℕ) (eo : op ≡ opcode ins k) where
  -- the box, and then the text
  drawn-is : (u old : ℕ) → drawn_by bits ins strings font k v u old
      ≡ pick (lettered op) (text_of bits ins strings font k v u (under ins k v op l u old)) (under ins k v op l u old)
  unfolding drawn_by
  drawn-is u old = ⊎_elim
      (λ (e : op ≡ 10). rw (← eo, e))
      (λ (a : op ≡ 10 → ⊥). ⊎_elim
      (λ (e : op ≡ 12). rw (← eo, e))
      (λ (b : op ≡ 12 → ⊥). ⊎_elim
      (λ (e : op ≡ 14). rw (← eo, e))
      (λ (c : op ≡ 14 → ⊥). rw (← eo, ne_eqb _ 10 a, ne_eqb _ 12 b, ne_eqb _ 14 c))
      (same_or op 14))
      (same_or op 12))
      (same_or op 10)

  pub one-text : {l' l'' : List ℕ} {text : Bool} → Under ins k v op l l' text → text ≡ true
      → l'' ≡ each (text_of bits ins strings font k v) l' → l'' ≡ each (drawn_by bits ins strings font k v) l
  one-text u t e = each-then _ _ _ l u.0 e (λ i old. drawn-is i old ∙ rw (sym u.1 ∙ t))

  pub one_plain : {l' : List ℕ} {text : Bool} → Under ins k v op l l' text → text ≡ false
      → l' ≡ each (drawn_by bits ins strings font k v) l
  one_plain u t = u.0 ∙ each-cong _ _ l (λ i old. sym (drawn-is i old ∙ rw (sym u.1 ∙ t)))

-- ---- a list

module _ (bits : ℕ) (ins strings font : List ℕ) (v : ℕ) where
  pub line-start : (l : List ℕ) {l' : List ℕ} → l' ≡ each (run_after 0 (length l) 0) l
      → l' ≡ tab (length l') (drawn_to bits ins strings font 0 v)
  unfolding drawn_to
  line-start l {l'} e =
      let long : length l' ≡ length l = ap length e ∙ length-each _ l in
      is-tab l' (length l') _ refl
      (λ i b. ap (λ (z : List ℕ). get_or z i 0) e ∙ get_d-each _ l i (omega arith)
      ∙ run_in 0 (length l) 0 i _ (omega arith) (omega arith))

  drawn_to-more : (k u : ℕ)
      → drawn_to bits ins strings font (k + 1) v u ≡ drawn_by bits ins strings font k v u (drawn_to bits ins strings font k v u)
  unfolding drawn_to
  drawn_to-more k u = rw (add-one k)

  pub line-next : (n k : ℕ) {l l' : List ℕ} → l ≡ tab n (drawn_to bits ins strings font k v)
      → l' ≡ each (drawn_by bits ins strings font k v) l
      → l' ≡ tab n (drawn_to bits ins strings font (k + 1) v)
  line-next n k {l} {l'} e e' =
      let long : length l ≡ n = ap length e ∙ length-tab n _ in
      is-tab l' n _ (ap length e' ∙ length-each _ l ∙ long)
      (λ i b. ap (λ (z : List ℕ). get_or z i 0) e' ∙ get_d-each _ l i (omega arith)
      ∙ ap (drawn_by bits ins strings font k v i) (ap (λ (z : List ℕ). get_or z i 0) e ∙ get_d-tab n _ i b)
      ∙ sym (drawn_to-more k i))

  pub line-last : (n k : ℕ) {m : ℕ} {l : List ℕ} → l ≡ tab n (drawn_to bits ins strings font k v) → n ≡ m → k ≡ count_of ins
      → l ≡ tab m (index_at bits ins strings font v)
  unfolding index_at
  line-last n k e t q = rw (← t) (e ∙ tab-cong n _ _ (λ i b. rw q refl))
