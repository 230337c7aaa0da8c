-- What holds of every run of calls: one item, two parts, the count, what each call keeps, and a run that
-- another follows step by step. Assumes nothing.
use mathlib.Core.Path.{◌≡◌, refl, sym, ap, ◌∙◌}
use mathlib.Core.Logic.{⊎_elim}
use mathlib.Core.List.{List, [], ◌∷◌, ◌++◌}
use Prim.Native.Nat.{ℕ, suc, ◌+◌, ◌<◌}
use native.Mathlib.Omega.{arith}
use borrow.Author.Tests.{eq-eqb, ne_eqb}
use lib.ListN.{length, take}
use Rattle.lists.proofs.Choice.{same_or}
use Rattle.answers.specs.Answers.{done}
use Rattle.runs.specs.Run.{One, one, Many, many, after, first, run_of, StopsAt}

-- ---- one call in front

module _ {S : Type 0} where
  pub after_none : (r : Many S) → after 0 r ≡ r
  after_none r = let q : 0 + r.count ≡ r.count = omega arith in ap (many r.left r.answer) q

  pub after-after : (m n : ℕ) (r : Many S) → after m (after n r) ≡ after (m + n) r
  after-after m n r =
      let q : m + (n + r.count) ≡ m + n + r.count = omega arith in
      ap (many r.left r.answer) q

-- so of each item
abbrev pub Each : {A : Type 0} → (A → Type 0) → List A → Type 0
Each Q [] = Unit {0}
Each Q (x ∷ l) = Q x × Each Q l

-- of any items, where nothing is asked
pub each-any : {A : Type 0} (l : List A) → Each (λ (x : A). Unit {0}) l
each-any [] = tt
each-any (x ∷ l) = (tt, each-any l)

module _ {S A : Type 0} (call : S → A → One S) where
  pub run_none : (s : S) → run_of call s [] ≡ many s done 0
  unfolding run_of
  run_none s = refl

  module _ (s : S) (x : A) (rest : List A) where
    pub run-goes : (call s x).answer ≡ done → run_of call s (x ∷ rest) ≡ after 1 (run_of call (call s x).left rest)
    unfolding run_of first
    run-goes e = rw (eq-eqb _ _ e)

    pub run-stops : ((call s x).answer ≡ done → ⊥) → run_of call s (x ∷ rest) ≡ many (call s x).left (call s x).answer 0
    unfolding run_of first
    run-stops ne = rw (ne_eqb _ _ ne)

    -- a run that was done whole has its first call done
    pub run-first : (run_of call s (x ∷ rest)).answer ≡ done → (call s x).answer ≡ done
    run-first e = ⊎_elim
        (λ (y : (call s x).answer ≡ done). y)
        (λ (n : (call s x).answer ≡ done → ⊥). ap (λ (r : Many S). r.answer) (sym (run-stops n)) ∙ e)
        (same_or (call s x).answer done)

  -- ---- for callers

  -- a run of one item is the single call
  pub run-one : (s : S) (x : A) → ((run_of call s (x ∷ [])).left ≡ (call s x).left)
      × ((run_of call s (x ∷ [])).answer ≡ (call s x).answer)
  run-one s x = ⊎_elim
      (λ (e : (call s x).answer ≡ done).
      let q = run-goes s x [] e ∙ ap (after 1) (run_none (call s x).left) in
      (ap (λ (r : Many S). r.left) q, ap (λ (r : Many S). r.answer) q ∙ sym e))
      (λ (n : (call s x).answer ≡ done → ⊥).
      let q = run-stops s x [] n in
      (ap (λ (r : Many S). r.left) q, ap (λ (r : Many S). r.answer) q))
      (same_or (call s x).answer done)

  -- a run of a and then b is one run, where a was done whole
  pub run-append : (a b : List A) (s : S) → (run_of call s a).answer ≡ done
      → run_of call s (a ++ b) ≡ after (length a) (run_of call (run_of call s a).left b)
  run-append [] b s e = rw (run_none s) (sym (after_none _))
  run-append (x ∷ a) b s e =
      let g = run-first s x a e in
      let p = run-goes s x a g in
      let h = run-append a b (call s x).left (ap (λ (r : Many S). r.answer) (sym p) ∙ e) in
      let q : 1 + length a ≡ suc (length a) = omega arith in
      let r = run_of call (run_of call (call s x).left a).left b in
      run-goes s x (a ++ b) g ∙ ap (after 1) h ∙ after-after 1 (length a) r ∙ ap (λ (n : ℕ). after n r) q ∙ rw p

  -- a run that was done whole counts all of its items
  pub run-all : (l : List A) (s : S) → (run_of call s l).answer ≡ done → (run_of call s l).count ≡ length l
  run-all [] s e = ap (λ (r : Many S). r.count) (run_none s)
  run-all (x ∷ l) s e =
      let p = run-goes s x l (run-first s x l e) in
      let h = run-all l (call s x).left (ap (λ (r : Many S). r.answer) (sym p) ∙ e) in
      let q : 1 + length l ≡ suc (length l) = omega arith in
      ap (λ (r : Many S). r.count) p ∙ ap (λ (n : ℕ). 1 + n) h ∙ q

  -- what every call with an item like these keeps is so of what a run leaves
  pub run-keeps : (P : S → Type 0) (Q : A → Type 0) → ((s : S) (x : A) → Q x → P s → P (call s x).left)
      → (l : List A) (s : S) → Each Q l → P s → P (run_of call s l).left
  run-keeps P Q keeps [] s q p = rw (run_none s) p
  run-keeps P Q keeps (x ∷ l) s q p = ⊎_elim
      (λ (e : (call s x).answer ≡ done).
      rw (run-goes s x l e) (run-keeps P Q keeps l (call s x).left q.1 (keeps s x q.0 p)))
      (λ (n : (call s x).answer ≡ done → ⊥). rw (run-stops s x l n) (keeps s x q.0 p))
      (same_or (call s x).answer done)

  -- else the count is the place of the first item that is refused
  stops-later : (s : S) (x : A) (l : List A) (n : ℕ) → (call s x).answer ≡ done → StopsAt call (call s x).left l n
      → StopsAt call s (x ∷ l) (suc n)
  stops-later s x l n e h =
      let p = run-goes s x (take n l) e in
      let q : 1 + n ≡ suc n = omega arith in
      let b : n < length l = h.place in
      record {
        item = h.item;
        behind = h.behind;
        parts = ap (λ (m : List A). x ∷ m) h.parts;
        place = omega arith;
        before = ap (λ (r : Many S). r.answer) p ∙ h.before;
        refused = rw p h.refused;
        whole = run-goes s x l e ∙ ap (after 1) h.whole ∙ rw (p, q);
      }

  stops-here : (s : S) (x : A) (l : List A) → ((call s x).answer ≡ done → ⊥) → StopsAt call s (x ∷ l) 0
  stops-here s x l n =
      let z = run_none s in
      record {
        item = x;
        behind = l;
        parts = refl;
        place = omega arith;
        before = ap (λ (r : Many S). r.answer) z;
        refused = rw z n;
        whole = run-stops s x l n ∙ rw z;
      }

  stops_as : (s : S) (l : List A) (m n : ℕ) → n ≡ m → StopsAt call s l n → StopsAt call s l m
  stops_as s l m n e h = rw (← e) h

  pub run_at : (l : List A) (s : S) → ((run_of call s l).answer ≡ done → ⊥) → StopsAt call s l (run_of call s l).count
  run_at [] s ne = absurd (ne (ap (λ (r : Many S). r.answer) (run_none s)))
  run_at (x ∷ l) s ne = ⊎_elim
      (λ (e : (call s x).answer ≡ done).
      let p = run-goes s x l e in
      let q : suc (run_of call (call s x).left l).count ≡ 1 + (run_of call (call s x).left l).count = omega arith in
      stops_as s (x ∷ l) (run_of call s (x ∷ l)).count _ (q ∙ ap (λ (m : Many S). m.count) (sym p))
      (stops-later s x l _ e (run_at l (call s x).left (λ z. ne (ap (λ (m : Many S). m.answer) p ∙ z)))))
      (λ (n : (call s x).answer ≡ done → ⊥).
      stops_as s (x ∷ l) (run_of call s (x ∷ l)).count 0 (ap (λ (m : Many S). m.count) (sym (run-stops s x l n)))
      (stops-here s x l n))
      (same_or (call s x).answer done)

-- ---- a run that another follows step by step

module _ {S T A : Type 0} (f : S → T) (call : S → A → One S) (call' : T → A → One T)
    (e : (s : S) (x : A) → call' (f s) x ≡ one (f (call s x).left) (call s x).answer) where
  pub run-map : (l : List A) (s : S) → run_of call' (f s) l
      ≡ many (f (run_of call s l).left) (run_of call s l).answer (run_of call s l).count
  run-map [] s = rw (run_none call s) (run_none call' (f s))
  run-map (x ∷ l) s = ⊎_elim
      (λ (d : (call s x).answer ≡ done).
      let d' = ap (λ (o : One T). o.answer) (e s x) ∙ d in
      run-goes call' (f s) x l d' ∙ ap (λ (o : One T). after 1 (run_of call' o.left l)) (e s x)
      ∙ ap (after 1) (run-map l (call s x).left) ∙ rw (run-goes call s x l d))
      (λ (n : (call s x).answer ≡ done → ⊥).
      let n' : (call' (f s) x).answer ≡ done → ⊥ = λ z. n (ap (λ (o : One T). o.answer) (sym (e s x)) ∙ z) in
      run-stops call' (f s) x l n' ∙ ap (λ (o : One T). many o.left o.answer 0) (e s x)
      ∙ rw (run-stops call s x l n))
      (same_or (call s x).answer done)
