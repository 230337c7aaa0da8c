-- What the code of a run of puts comes to, from the tests that it makes. Assumes nothing.
use mathlib.Core.Path.{◌≡◌, refl, sym, ap, ap₂, ◌∙◌}
use mathlib.Core.Bool.{Bool}
use mathlib.Core.Logic.{⊎_elim}
use mathlib.Core.List.{List, [], ◌∷◌, ◌++◌, append-nil}
use Prim.Native.Nat.{ℕ, zero, suc, ◌+◌, ◌-◌, ◌*◌, ◌^◌, ◌≤◌, ◌<◌}
use native.Mathlib.Omega.{arith}
use borrow.Author.Tests.{eq-eqb, ne_eqb}
use lib.Bits.{bit_or}
use lib.Dec.{eqb}
use lib.ListN.{length, take, drop, set, length-set}
use lib.Seq.{take_all}
use Rattle.lists.specs.Over.{over}
use Rattle.lists.proofs.Choice.{same_or, pick-keeps}
use Rattle.answers.specs.Answers.{done, bank_full, tables_length}
use Rattle.tables.specs.Geometry.{tables_len}
use Rattle.tables.specs.Selection.{controller_of, end_of, first_byte_of}
use Rattle.tables.specs.declared.Selection.{Selection}
use Rattle.tables.proofs.Geometry.{bank-room}
use Rattle.loads.specs.declared.Loaded.{Loaded}
use Rattle.loads.specs.Loads.{refusal_of, refusal_for, fits_of, stored, loaded, fitted, load_of, load_tables}

-- ---- what is refused whatever the place

module _ (bits : ℕ) (active : List ℕ) (made : Bool) (number long : ℕ) where
  refusal-length : (long ≡ tables_len bits → ⊥) → tables_length ≡ refusal_of bits active made number long
  unfolding refusal_of
  refusal-length ne = rw (ne_eqb _ _ ne)

  -- what passes has tables of the right length
  pub passes-long : refusal_of bits active made number long ≡ done → long ≡ tables_len bits
  passes-long e = ⊎_elim (λ (l : long ≡ tables_len bits). l)
      (λ (ne : long ≡ tables_len bits → ⊥). let y : tables_length ≡ done = refusal-length ne ∙ e in absurd (omega arith))
      (same_or long (tables_len bits))

-- ---- bytes stored

-- none
pub stored-none : (l : List ℕ) (o : ℕ) → stored l o [] ≡ l
unfolding stored over
stored-none [] zero = refl
stored-none [] (suc o) = refl
stored-none (x ∷ l) zero = refl
stored-none (x ∷ l) (suc o) = ap (λ (k : List ℕ). x ∷ k) (stored-none l o)

-- one, and then those behind it
pub stored-set : (l : List ℕ) (o byte : ℕ) (run : List ℕ) → o < length l
    → stored (set l o byte) (suc o) run ≡ stored l o (byte ∷ run)
unfolding stored over
stored-set [] o byte run h = absurd (omega arith)
stored-set (x ∷ l) zero byte run h = refl
stored-set (x ∷ l) (suc o) byte run h = ap (λ (k : List ℕ). x ∷ k) (stored-set l o byte run (omega arith))

-- as the code does it: nothing for no bytes, and a copy into the part that is lent
pub stored-empty : (l : List ℕ) (o : ℕ) (part : List ℕ) → length part ≡ 0 → l ≡ stored l o part
stored-empty l o [] h = sym (stored-none l o)
stored-empty l o (x ∷ part) h = absurd (omega arith)

drop-take : (k : ℕ) (m : List ℕ) → drop k (take k m) ≡ []
drop-take zero m = refl
drop-take (suc k) [] = refl
drop-take (suc k) (x ∷ m) = drop-take k m

pub stored-lent : (l part : List ℕ) (o : ℕ) (out : List ℕ)
    → out ≡ over part (take (o + length part - o) (drop o l))
    → take o l ++ (out ++ drop (o + length part - o) (drop o l)) ≡ stored l o part
unfolding stored over
stored-lent l part o out g =
    let e : o + length part - o ≡ length part = omega arith in
    let h = rw e at g in
    rw (e, h, drop-take (length part) (drop o l), append-nil part)

-- ---- a run of puts

module _ (bits : ℕ) (active : List ℕ) (errors : ℕ) (s : Selection) (tables run : List ℕ) where
  abbrev Comes : ℕ → ℕ → ℕ → ℕ → List ℕ → Type 0
  Comes place errors' answer count tables' =
      (loaded place errors' answer count ≡ load_of bits active errors s (length tables) (length run))
      × (tables' ≡ load_tables bits active s tables run)

  pub load-empty : length run ≡ 0 → Comes s.place errors done 0 tables
  unfolding load_of load_tables refusal_for fitted
  load-empty e =
      let q : s.place ≡ s.place + length run = omega arith in
      let f : fits_of bits s.place s.number (length run) ≡ length run = omega arith in
      let z : take (length run) run ≡ run = take_all (length run) run (omega arith) in (
        rw (eq-eqb _ _ e, eq-eqb _ _ f) (ap₂ (λ (n k : ℕ). loaded n errors done k) q (sym e)),
        rw (eq-eqb _ _ e, f, z) (stored-empty tables _ run e),
      )

  module _ (some : length run ≡ 0 → ⊥) where
    pub load-refused : (answer : ℕ) → answer ≡ refusal_of bits active s.made s.number (length tables)
        → (answer ≡ done → ⊥) → Comes s.place errors answer 0 tables
    unfolding load_of load_tables refusal_for
    load-refused answer e ne = (rw (ne_eqb _ _ some, ← e, ne_eqb _ _ ne), rw (ne_eqb _ _ some, ← e, ne_eqb _ _ ne))

    module _ (answer fits : ℕ) (tables' : List ℕ)
        (e : answer ≡ refusal_of bits active s.made s.number (length tables)) (p : answer ≡ done)
        (f : fits ≡ fits_of bits s.place s.number (length run))
        (t : tables' ≡ stored tables (first_byte_of bits s.number + s.place) (take fits run)) where
      pub load-all : fits ≡ length run → Comes (s.place + fits) errors done fits tables'
      unfolding load_of load_tables refusal_for fitted
      load-all a = (rw (ne_eqb _ _ some, ← e, p, ← f, eq-eqb _ _ a, a), rw (ne_eqb _ _ some, ← e, p, ← f) t)

      pub load_full : (errors' : ℕ) → (fits ≡ length run → ⊥)
          → errors' ≡ bit_or errors (2 ^ (4 * controller_of s.number + 1))
          → Comes (s.place + fits) errors' bank_full fits tables'
      unfolding load_of load_tables refusal_for fitted
      load_full errors' ne g =
          (rw (ne_eqb _ _ some, ← e, p, ← f, ne_eqb _ _ ne, g), rw (ne_eqb _ _ some, ← e, p, ← f) t)

-- the selected table lies in the buffer
room : (bits number : ℕ) → first_byte_of bits number + end_of bits number ≤ tables_len bits
room bits number = bank-room _ _ _ _ (omega arith) (omega arith)

-- ---- one byte that fits, and then the others

-- one more done in front
abbrev pub counted : Loaded → Loaded
counted l = loaded l.place l.errors l.answer (1 + l.done)

-- the place moved by one
abbrev pub moved : Selection → Selection
moved s = record { made = s.made; number = s.number; place = s.place + 1 }

module _ (bits : ℕ) (active : List ℕ) (s : Selection) (long : ℕ)
    (passes : refusal_of bits active s.made s.number long ≡ done) where
  passes-any : (n : ℕ) → refusal_for bits active s long n ≡ done
  unfolding refusal_for
  passes-any n = rw passes (pick-keeps (λ (k : ℕ). k ≡ done) (eqb n 0) done done (λ e. refl) (λ e. refl))

  load-passes : (errors n : ℕ) → load_of bits active errors s long n ≡ fitted bits errors s n
  unfolding load_of
  load-passes errors n = rw (passes-any n)

  tables-pass : (tables run : List ℕ) → length tables ≡ long → load_tables bits active s tables run
      ≡ stored tables (first_byte_of bits s.number + s.place) (take (fits_of bits s.place s.number (length run)) run)
  unfolding load_tables
  tables-pass tables run e = rw (e, passes-any (length run))

fitted-step : (bits errors : ℕ) (s : Selection) (n : ℕ) → s.place < end_of bits s.number
    → fitted bits errors s (suc n) ≡ counted (fitted bits errors (moved s) n)
unfolding fitted
fitted-step bits errors s n h =
    let f = fits_of bits (s.place + 1) s.number n in
    let q : fits_of bits s.place s.number (suc n) ≡ suc f = omega arith in
    ⊎_elim
    (λ (e : f ≡ n).
    let e' : fits_of bits s.place s.number (suc n) ≡ suc n = omega arith in
    let p : s.place + suc n ≡ s.place + 1 + n = omega arith in
    let k : suc n ≡ 1 + n = omega arith in
    rw (eq-eqb _ _ e', eq-eqb _ _ e) (ap₂ (λ (x y : ℕ). loaded x errors done y) p k))
    (λ (ne : f ≡ n → ⊥).
    let ne' : fits_of bits s.place s.number (suc n) ≡ suc n → ⊥ = λ z. ne (omega arith) in
    let p : s.place + fits_of bits s.place s.number (suc n) ≡ s.place + 1 + f = omega arith in
    let k : fits_of bits s.place s.number (suc n) ≡ 1 + f = omega arith in
    rw (ne_eqb _ _ ne', ne_eqb _ _ ne)
    (ap₂ (λ (x y : ℕ). loaded x (bit_or errors (2 ^ (4 * controller_of s.number + 1))) bank_full y) p k))
    (same_or f n)

module _ (bits : ℕ) (active : List ℕ) (errors : ℕ) (s : Selection) (tables : List ℕ) (byte : ℕ) (run : List ℕ)
    (passes : refusal_of bits active s.made s.number (length tables) ≡ done) (h : s.place < end_of bits s.number) where
  pub load_step : load_of bits active errors s (length tables) (suc (length run))
      ≡ counted (load_of bits active errors (moved s) (length tables) (length run))
  load_step =
      load-passes bits active s (length tables) passes errors (suc (length run)) ∙ fitted-step bits errors s (length run) h
      ∙ ap counted (sym (load-passes bits active (moved s) (length tables) passes errors (length run)))

  pub tables_step : load_tables bits active s tables (byte ∷ run)
      ≡ load_tables bits active (moved s) (set tables (first_byte_of bits s.number + s.place) byte) run
  tables_step =
      let at = first_byte_of bits s.number + s.place in
      let f = fits_of bits (s.place + 1) s.number (length run) in
      let q : fits_of bits s.place s.number (suc (length run)) ≡ suc f = omega arith in
      let n : first_byte_of bits s.number + (s.place + 1) ≡ suc at = omega arith in
      let b : at < length tables = omega (arith, passes-long _ _ _ _ _ passes, room bits s.number) in
      tables-pass bits active s (length tables) passes tables (byte ∷ run) refl
      ∙ ap (λ (k : ℕ). stored tables at (take k (byte ∷ run))) q ∙ sym (stored-set tables at byte (take f run) b)
      ∙ ap (λ (k : ℕ). stored (set tables at byte) k (take f run)) (sym n)
      ∙ sym (tables-pass bits active (moved s) (length tables) passes (set tables at byte) run (length-set tables at byte))
