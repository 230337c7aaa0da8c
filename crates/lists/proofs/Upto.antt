-- A list that is written from the front: the invariant of every loop that fills a buffer.
-- Assumes nothing.
use mathlib.Core.Path.{◌≡◌, refl, sym, ap, ◌∙◌}
use mathlib.Core.Logic.{⊎_elim}
use mathlib.Core.List.{List, ◌++◌, append_assoc}
use Prim.Native.Nat.{ℕ, ◌+◌, ◌-◌, ◌≤◌, ◌<◌}
use native.Mathlib.Nat.{not-suc-le-zero}
use native.Mathlib.Omega.{arith}
use lib.ListN.{length, get_or, take, drop, set, length-set, length-append, length-drop, get_or-append}
use lib.Seq.{get_or-set_same, get_or-set_other, get_or-take, get_or-drop, length-take-le, get_or-append-add, drop-drop}
use Rattle.lists.specs.Tab.{tab}
use Rattle.lists.proofs.Choice.{split}
use Rattle.lists.proofs.Tab.{is-tab}

-- l is l₀ with f i at each index i below k
pub record Upto (l l₀ : List ℕ) (f : ℕ → ℕ) (k : ℕ) : Type 0 where
  pub long : length l ≡ length l₀
  pub new : (i : ℕ) → i < k → i < length l₀ → get_or l i 0 ≡ f i
  pub old : (i : ℕ) → k ≤ i → get_or l i 0 ≡ get_or l₀ i 0

pub upto-none : (l : List ℕ) (f : ℕ → ℕ) → Upto l l f 0
upto-none l f = record { long = refl; new = λ i h b. absurd (not-suc-le-zero h); old = λ i h. refl }

-- a store at the front's end
pub upto-set : {l l₀ : List ℕ} {f : ℕ → ℕ} {k m : ℕ} (j v : ℕ) → Upto l l₀ f k → j ≡ k → m ≡ k + 1 → j < length l₀
    → v ≡ f j → Upto (set l j v) l₀ f m
upto-set {l} {l₀} {f} {k} {m} j v u at to b e = record {
  long = length-set l j v ∙ u.long;
  new = λ i h hb. ⊎_elim
      (λ (lt : i < j). get_or-set_other l j i v 0 (λ (q : i ≡ j). omega arith) ∙ u.new i (omega arith) hb)
      (λ (ge : j ≤ i). let q : i ≡ j = omega arith in rw q (get_or-set_same l j v 0 (omega (arith, u.long)) ∙ e))
      (split i j);
  old = λ i h. get_or-set_other l j i v 0 (λ (q : i ≡ j). omega arith) ∙ u.old i (omega arith);
}

-- what is as the rule says already is passed over
pub upto_skip : {l l₀ : List ℕ} {f : ℕ → ℕ} {k : ℕ} (m : ℕ) → Upto l l₀ f k → k ≤ m
    → ((i : ℕ) → k ≤ i → i < m → i < length l₀ → f i ≡ get_or l₀ i 0) → Upto l l₀ f m
upto_skip {l} {l₀} {f} {k} m u h same = record {
  long = u.long;
  new = λ i hi hb. ⊎_elim
      (λ (lt : i < k). u.new i lt hb)
      (λ (ge : k ≤ i). u.old i ge ∙ sym (same i ge hi hb))
      (split i k);
  old = λ i hi. u.old i (omega arith);
}

-- a part from o to e was lent and came back with the rule's values
pub upto-part : {l l₀ : List ℕ} {f : ℕ → ℕ} {k : ℕ} (part : List ℕ) (o e : ℕ) → Upto l l₀ f k → o ≡ k → o ≤ e
    → e ≤ length l₀ → length part ≡ e - o
    → ((i : ℕ) → i < e - o → get_or part i 0 ≡ f (o + i)) → Upto (take o l ++ part ++ drop e l) l₀ f e
upto-part {l} {l₀} {f} {k} part o e u at oe el pl val =
    let long-o : length (take o l) ≡ o = length-take-le o l (omega (arith, u.long)) in
    let long-oe : length (take o l ++ part) ≡ e = simp (length-append) (omega arith) in
    record {
      long = simp (length-append, length-drop) (omega (arith, u.long, long-o));
      new = λ i h hb. get_or-append (take o l ++ part) (drop e l) 0 i (omega arith) ∙ ⊎_elim
          (λ (lt : i < o). get_or-append (take o l) part 0 i (omega arith) ∙ get_or-take o l i 0 lt
          ∙ u.new i (omega arith) hb)
          (λ (ge : o ≤ i). let q : i ≡ length (take o l) + (i - o) = omega arith in
          ap (λ (n : ℕ). get_or (take o l ++ part) n 0) q ∙ get_or-append-add (take o l) part (i - o) 0
          ∙ val (i - o) (omega arith)
          ∙ ap f (let q2 : o + (i - o) ≡ i = omega arith in q2))
          (split i o);
      old = λ i h. let q : i ≡ length (take o l ++ part) + (i - e) = omega arith in
          ap (λ (n : ℕ). get_or (take o l ++ part ++ drop e l) n 0) q
          ∙ get_or-append-add (take o l ++ part) (drop e l) (i - e) 0
          ∙ get_or-drop e l (i - e) 0 ∙ ap (λ (n : ℕ). get_or l n 0) (let q2 : e + (i - e) ≡ i = omega arith in q2)
          ∙ u.old i (omega arith);
    }

-- the same as the borrow checker writes it: n elements from o on
pub upto-lent : {l l₀ : List ℕ} {f : ℕ → ℕ} {k m : ℕ} (part : List ℕ) (o n : ℕ) → Upto l l₀ f k → o ≡ k → m ≡ o + n
    → o + n ≤ length l₀ → length part ≡ n
    → ((i : ℕ) → i < n → get_or part i 0 ≡ f (o + i)) → Upto (take o l ++ (part ++ drop n (drop o l))) l₀ f m
upto-lent {l} {l₀} {f} {k} {m} part o n u at to el pl val =
    rw (drop-drop n o l, ← append_assoc (take o l) part (drop (o + n) l), to)
    (upto-part part o (o + n) u at (omega arith) el (omega arith) (λ i h. val i (omega arith)))

pub upto_done : {l l₀ : List ℕ} {f : ℕ → ℕ} {k : ℕ} → Upto l l₀ f k → length l₀ ≤ k → l ≡ tab (length l₀) f
upto_done {l} {l₀} {f} {k} u h = is-tab l (length l₀) f u.long (λ i b. u.new i (omega arith) b)

-- the end as a loop `while k < l.len()` leaves it
pub upto-full : {l l₀ : List ℕ} {f : ℕ → ℕ} {k : ℕ} → Upto l l₀ f k → length l ≤ k → l ≡ tab (length l₀) f
upto-full u h = upto_done u (omega (arith, u.long))
