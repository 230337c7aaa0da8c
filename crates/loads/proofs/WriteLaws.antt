-- The turns of the loop over a run of writes. Assumes nothing.
use mathlib.Core.Path.{◌≡◌, sym, ap, ◌∙◌}
use mathlib.Core.List.{List, ◌∷◌}
use Prim.Native.Nat.{ℕ, suc, ◌+◌, ◌-◌, ◌*◌, ◌/◌, ◌≤◌, ◌<◌}
use native.Mathlib.Omega.{arith}
use borrow.Author.Tests.{lt-ltb, le-ltb}
use lib.ListN.{length, get_or, drop, set}
use lib.Seq.{get_or-drop, drop-drop}
use Rattle.lists.specs.Little.{little_at}
use Rattle.answers.specs.Answers.{done, no_register}
use Rattle.runs.specs.Run.{One, one, many, after, run_of}
use Rattle.runs.specs.Writes.{Write, write_in, first_writes, writes_in}
use Rattle.runs.proofs.RunLaws.{after_none, after-after, run_none, run-goes, run-stops}
use Rattle.runs.proofs.WriteLaws.{no_writes, first-writes}
use Rattle.loads.specs.Loads.{write_word, writes_of}

little-drop : (run : List ℕ) (o : ℕ) → little_at (drop o run) 1 ≡ little_at run (o + 1)
unfolding little_at
little-drop run o =
    let q1 : o + (1 + 1) ≡ o + 1 + 1 = omega arith in
    let q2 : o + (1 + 2) ≡ o + 1 + 2 = omega arith in
    let q3 : o + (1 + 3) ≡ o + 1 + 3 = omega arith in
    rw (
      get_or-drop o run 1 0,
      get_or-drop o run (1 + 1) 0,
      get_or-drop o run (1 + 2) 0,
      get_or-drop o run (1 + 3) 0,
      q1,
      q2,
      q3,
    )

-- what is left of a run from item i on, after the i before it, is the whole
abbrev pub Left : List ℕ → List ℕ → ℕ → List ℕ → ℕ → Type 0
Left pending₀ run items pending i =
    after i (run_of write_word pending (first_writes (items - i) (drop (5 * i) run))) ≡ writes_of pending₀ run

pub write-begins : (pending run : List ℕ) (items : ℕ) → items ≡ length run / 5 → Left pending run items pending 0
unfolding writes_of writes_in
write-begins pending run items e = let q : items - 0 ≡ items = omega arith in after_none _ ∙ rw (q, e)

module _ (pending₀ pending run : List ℕ) (items i : ℕ) (inv : Left pending₀ run items pending i) where
  module _ (register : ℕ) (h : i < items) (e : register ≡ get_or run (5 * i) 0) where
    one_left : first_writes (items - i) (drop (5 * i) run)
        ≡ write_in (drop (5 * i) run) ∷ first_writes (items - (i + 1)) (drop (5 * (i + 1)) run)
    one_left =
        let q : items - i ≡ suc (items - (i + 1)) = omega arith in
        let q5 : 5 * i + 5 ≡ 5 * (i + 1) = omega arith in
        ap (λ (k : ℕ). first_writes k (drop (5 * i) run)) q ∙ first-writes (items - (i + 1)) (drop (5 * i) run)
        ∙ ap (λ (l : List ℕ). write_in (drop (5 * i) run) ∷ first_writes (items - (i + 1)) l)
        (drop-drop 5 (5 * i) run ∙ ap (λ (k : ℕ). drop k run) q5)

    at_front : register ≡ (write_in (drop (5 * i) run)).register
    at_front =
        let q : 5 * i + 0 ≡ 5 * i = omega arith in
        e ∙ ap (λ (k : ℕ). get_or run k 0) (sym q) ∙ sym (get_or-drop (5 * i) run 0 0)

    pub write-turn : (v : ℕ) → register < 52 → v ≡ little_at run (5 * i + 1)
        → Left pending₀ run items (set pending register v) (i + 1)
    write-turn v lt f =
        let w = write_in (drop (5 * i) run) in
        let rest = first_writes (items - (i + 1)) (drop (5 * (i + 1)) run) in
        let g : one (set pending register v) done ≡ write_word pending w
        = rw (← at_front, lt-ltb _ _ lt, f ∙ sym (little-drop run (5 * i))) in
        let s = run-goes write_word pending w rest (ap (λ (o : One (List ℕ)). o.answer) (sym g)) in
        sym (after-after i 1 _) ∙ ap (λ (o : One (List ℕ)). after i (after 1 (run_of write_word o.left rest))) g
        ∙ ap (after i) (sym s) ∙ ap (λ (l : List Write). after i (run_of write_word pending l)) (sym one_left) ∙ inv

    pub write-stop : 52 ≤ register → many pending no_register i ≡ writes_of pending₀ run
    write-stop ge =
        let w = write_in (drop (5 * i) run) in
        let rest = first_writes (items - (i + 1)) (drop (5 * (i + 1)) run) in
        let g : one pending no_register ≡ write_word pending w = rw (← at_front, le-ltb _ _ ge) in
        let s = run-stops write_word pending w rest
        (λ z. let y : no_register ≡ done = ap (λ (o : One (List ℕ)). o.answer) g ∙ z in omega arith) in
        let q : i ≡ i + 0 = omega arith in
        ap (many pending no_register) q
        ∙ ap (λ (o : One (List ℕ)). after i (many o.left o.answer 0)) g
        ∙ ap (after i) (sym s) ∙ ap (λ (l : List Write). after i (run_of write_word pending l)) (sym one_left) ∙ inv

  pub write-end : i ≤ items → items ≤ i → many pending done items ≡ writes_of pending₀ run
  write-end p q =
      let z : items - i ≡ 0 = omega arith in
      let y : items ≡ i + 0 = omega arith in
      ap (many pending done) y ∙ ap (after i) (sym (run_none write_word pending))
      ∙ ap (λ (l : List Write). after i (run_of write_word pending l)) (sym (no_writes (drop (5 * i) run)))
      ∙ ap (λ (k : ℕ). after i (run_of write_word pending (first_writes k (drop (5 * i) run)))) (sym z) ∙ inv
