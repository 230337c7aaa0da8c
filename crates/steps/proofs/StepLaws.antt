-- A step that is left out and one that is done; and the turns of the loops over steps, where what
-- is left to do from here on comes to the same as the whole. Assumes nothing.
use Prim.Native.Nat.{ℕ, zero, suc, ◌+◌, ◌-◌, ◌*◌, ◌<◌, ◌≤◌}
use mathlib.Core.Path.{◌≡◌, refl, sym, ap, ap₂, ◌∙◌}
use mathlib.Core.Logic.{⊎_elim}
use mathlib.Core.List.{List, [], ◌∷◌, ◌++◌}
use native.Mathlib.Omega.{arith}
use borrow.Author.Tests.{eq-eqb, ne_eqb}
use lib.ListN.{length, take, drop}
use lib.Seq.{drop-cons}
use Rattle.lists.proofs.Choice.{same_or}
use Rattle.answers.specs.Answers.{done}
use Rattle.runs.specs.Run.{Many}
use Rattle.runs.specs.Run as many
use Rattle.runs.proofs.RunLaws.{run_none, run-goes, run-stops}
use Rattle.display.specs.declared.Display.{Display}
use Rattle.display.specs.declared.Told.{Told}
use Rattle.display.specs.declared.Ran.{Ran}
use Rattle.display.specs.State.{told, write_of, select_of}
use Rattle.display.specs.Put.{put_of, put_tables}
use Rattle.display.specs.Runs.{Lent, lent, put_one, puts, put_run_of, put_run_tables}
use Rattle.steps.specs.Form.{byte_at, count_at, word_at, loads_of, writes_place}
use Rattle.steps.specs.Steps.{Act, Midway, midway, act_of, step_of, run_of, puts_at, load_at, loads_at, writes_at}
use Rattle.steps.specs.Steps.{steps_of}
use Rattle.steps.proofs.FormLaws.{turn_left, none_left}

-- ---- one step

pub step_of-refused : (t : Told) (l : List ℕ) (s : Act) → (t.answer ≡ done → ⊥) → midway t l ≡ step_of (midway t l) s
unfolding step_of
step_of-refused t l s h = simp (ne_eqb t.answer done h)

pub step_of-done : (t r : Told) (l u : List ℕ) (s : Act) → t.answer ≡ done → midway r u ≡ act_of t.state l s
    → midway r u ≡ step_of (midway t l) s
unfolding step_of
step_of-done t r l u s h e = simp (eq-eqb t.answer done h) e

pub select-done : (t r : Told) (l : List ℕ) (n : ℕ) → t.answer ≡ done → r ≡ select_of t.state n
    → midway r l ≡ step_of (midway t l) (Act.select n)
select-done t r l n h e = step_of-done t r l l (Act.select n) h (rw e refl)

pub write_done : (t r : Told) (l : List ℕ) (n v : ℕ) → t.answer ≡ done → r ≡ write_of t.state n v
    → midway r l ≡ step_of (midway t l) (Act.write n v)
write_done t r l n v h e = step_of-done t r l l (Act.write n v) h (rw e refl)

-- ---- steps in a row

run_of-append : (m : Midway) (xs ys : List Act) → run_of m (xs ++ ys) ≡ run_of (run_of m xs) ys
unfolding run_of
run_of-append m [] ys = refl
run_of-append m (s ∷ xs) ys = run_of-append (step_of m s) xs ys

pub run-refused : (m : Midway) (l : List Act) → (m.told.answer ≡ done → ⊥) → m ≡ run_of m l
unfolding run_of
run-refused m [] ne = refl
run-refused m (s ∷ l) ne =
    let q = step_of-refused m.told m.tables s ne in
    run-refused m l ne ∙ ap (λ (k : Midway). run_of k l) q

-- ---- bytes put one after another are a run of them

-- what a run leaves
abbrev left_of : Many Lent → Midway
left_of m = midway (told m.left.state m.answer) m.left.tables

one_more : (b : List ℕ) (n at : ℕ) → at < length b → take (suc n) (drop at b) ≡ byte_at b at ∷ take n (drop (at + 1) b)
one_more b n at h =
    let q : suc at ≡ at + 1 = omega arith in
    ap (take (suc n)) (drop-cons b at 0 h) ∙ ap (λ (k : ℕ). byte_at b at ∷ take n (drop k b)) q

first-put : (d : Display) (t : List ℕ) (x : ℕ) → step_of (midway (told d done) t) (Act.put x)
    ≡ midway (put_of d t) (put_tables d t x)
unfolding step_of
first-put d t x = refl

puts-many : (n : ℕ) (b : List ℕ) (at : ℕ) (d : Display) (t : List ℕ) → at + n ≤ length b
    → left_of (many.run_of put_one (lent d t) (take n (drop at b))) ≡ run_of (midway (told d done) t) (puts_at n b at)
unfolding run_of puts_at
puts-many zero b at d t h = ap left_of (run_none put_one (lent d t))
puts-many (suc n) b at d t h =
    let x = byte_at b at in
    let rest = take n (drop (at + 1) b) in
    let d' = (put_of d t).state in
    let t' = put_tables d t x in
    ap (λ (l : List ℕ). left_of (many.run_of put_one (lent d t) l)) (one_more b n at (omega arith))
    ∙ ⊎_elim
    (λ (e : (put_of d t).answer ≡ done).
    let same : told d' done ≡ put_of d t = ap (told d') (sym e) in
    ap left_of (run-goes put_one (lent d t) x rest e) ∙ puts-many n b (at + 1) d' t' (omega arith)
    ∙ ap (λ (r : Told). run_of (midway r t') (puts_at n b (at + 1))) same)
    (λ (ne : (put_of d t).answer ≡ done → ⊥).
    ap left_of (run-stops put_one (lent d t) x rest ne) ∙ run-refused (midway (put_of d t) t') (puts_at n b (at + 1)) ne)
    (same_or (put_of d t).answer done)
    ∙ ap (λ (m : Midway). run_of m (puts_at n b (at + 1))) (sym (first-put d t x))

-- as the code has it
pub puts-run : (t : Told) (l u : List ℕ) (n at : ℕ) (b : List ℕ) (r : Ran) → t.answer ≡ done → at + n ≤ length b
    → r ≡ put_run_of t.state l (take (at + n - at) (drop at b))
    → u ≡ put_run_tables t.state l (take (at + n - at) (drop at b))
    → midway (told r.state r.answer) u ≡ run_of (midway t l) (puts_at n b at)
unfolding put_run_of put_run_tables puts
puts-run t l u n at b r e h p q =
    let k : at + n - at ≡ n = omega arith in
    let same : told t.state done ≡ t = ap (told t.state) (sym e) in
    ap₂ (λ (x : Ran) (v : List ℕ). midway (told x.state x.answer) v) p q
    ∙ ap (λ (m : ℕ). left_of (many.run_of put_one (lent t.state l) (take m (drop at b)))) k
    ∙ puts-many n b at t.state l h ∙ ap (λ (x : Told). run_of (midway x l) (puts_at n b at)) same

-- i of n turns are done; m before the turn, m' after it, w the whole
module _ (b : List ℕ) (n i at : ℕ) (m m' w : Midway) where
  pub loads-turn : (c : ℕ) → i < n → run_of m (loads_at (n - i) b at) ≡ w → c ≡ count_at b (at + 1)
      → m' ≡ run_of m (load_at b at) → run_of m' (loads_at (n - (i + 1)) b (at + 3 + c)) ≡ w
  unfolding loads_at
  loads-turn c p e q d =
      rw (d, q) (sym (run_of-append m (load_at b at) (loads_at (n - (i + 1)) b (at + 3 + count_at b (at + 1))))
      ∙ sym (ap (λ (k : ℕ). run_of m (loads_at k b at)) (turn_left p)) ∙ e)

  pub loads-end : n ≤ i → run_of m (loads_at (n - i) b at) ≡ w → m ≡ w
  unfolding run_of loads_at
  loads-end p e = sym (ap (λ (k : ℕ). run_of m (loads_at k b at)) (none_left p)) ∙ e

  pub writes-turn : (r v : ℕ) → i < n → run_of m (writes_at (n - i) b (at + 5 * i)) ≡ w → r ≡ byte_at b (at + 5 * i)
      → v ≡ word_at b (at + 5 * i + 1) → m' ≡ step_of m (Act.write r v)
      → run_of m' (writes_at (n - (i + 1)) b (at + 5 * (i + 1))) ≡ w
  unfolding run_of writes_at
  writes-turn r v p e q f d =
      let z : at + 5 * (i + 1) ≡ at + 5 * i + 5 = omega arith in
      rw (z, d, q, f) (sym (ap (λ (k : ℕ). run_of m (writes_at k b (at + 5 * i))) (turn_left p)) ∙ e)

  pub writes_end : n ≤ i → run_of m (writes_at (n - i) b (at + 5 * i)) ≡ w → m ≡ w
  unfolding run_of writes_at
  writes_end p e = sym (ap (λ (k : ℕ). run_of m (writes_at k b (at + 5 * i))) (none_left p)) ∙ e

pub load_is : (b : List ℕ) (at x n : ℕ) (t₀ t r : Told) (l u : List ℕ) → x ≡ byte_at b at
    → ((k : List ℕ) → midway t k ≡ step_of (midway t₀ k) (Act.select x))
    → n ≡ count_at b (at + 1) → midway r u ≡ run_of (midway t l) (puts_at n b (at + 3))
    → midway r u ≡ run_of (midway t₀ l) (load_at b at)
unfolding run_of load_at
load_is b at x n t₀ t r l u q s k e = e ∙ rw (s l, q, k) refl

pub steps-is : (b : List ℕ) (w n : ℕ) (t₀ t r : Told) (l u : List ℕ) → w ≡ writes_place b → n ≡ byte_at b w
    → midway t u ≡ run_of (midway t₀ l) (loads_at (loads_of b) b 1)
    → ((k : List ℕ) → midway r k ≡ run_of (midway t k) (writes_at n b (w + 1)))
    → midway r u ≡ run_of (midway t₀ l) (steps_of b)
unfolding steps_of
steps-is b w n t₀ t r l u ew k e f =
    f u ∙ rw (e, k, ew) (sym (run_of-append (midway t₀ l) (loads_at (loads_of b) b 1)
    (writes_at (byte_at b (writes_place b)) b (writes_place b + 1))))
