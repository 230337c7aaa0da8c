-- A loop of calls of `feed` on a block, as a program has it: what the calls so far have left leads to
-- what the block leaves. Assumes nothing.
use Prim.Native.Nat.{ℕ, zero, suc, ◌+◌, ◌-◌, ◌<◌, ◌≤◌}
use mathlib.Core.Path.{◌≡◌, refl, sym, ap, ◌∙◌}
use mathlib.Core.Bool.{true}
use mathlib.Core.Logic.{⊎_elim}
use mathlib.Core.List.{List, [], ◌++◌}
use native.Mathlib.Omega.{arith}
use lib.ListN.{length, drop, length-drop}
use borrow.Author.Tests.{lt-ltb, le-ltb}
use Rattle.lists.proofs.Choice.{split, choose-keeps}
use Rattle.texts.proofs.GatherLaws.{used_in-bounds}
use Rattle.steps.proofs.FormLaws.{one_left}
use Rattle.lines.specs.declared.blocks.Going.{Going}
use Rattle.lines.specs.Blocks.{Batch, turn_of, goes_on, turns_of, feed_of}
use Rattle.lines.specs.Calls.{again_of, calls_of, block_of}
use Rattle.lines.proofs.BlockLaws.{goes_on-inside, turns_of-more}

-- the parts of a batch; what is printed is written and not held
abbrev batch : Going → List ℕ → List ℕ → ℕ → List ℕ → Batch
batch g t u n p = record { going = g; tables = t; text = u; used = n; printed = p }

-- n bytes of l are used up, and calls enough are left to come to w
pub record Reaches (l : List ℕ) (g : Going) (t u : List ℕ) (n : ℕ) (w : Batch) : Type 0 where
  pub calls : ℕ
  pub written : List ℕ
  pub enough : length l ≤ n + calls
  pub same : calls_of calls l (batch g t u n written) ≡ w

pub reaches-first : (g : Going) (t u l : List ℕ) → Reaches l g t u 0 (block_of g t u l)
unfolding block_of
reaches-first g t u l = record { calls = length l; written = []; enough = omega arith; same = refl }

calls_of-more : (n : ℕ) (l : List ℕ) (b : Batch) → b.used < length l → calls_of (suc n) l b ≡ calls_of n l (again_of l b)
unfolding calls_of
calls_of-more n l b h = rw (lt-ltb b.used (length l) h) refl

calls_of-end : (n : ℕ) (l : List ℕ) (b : Batch) → length l ≤ b.used → calls_of n l b ≡ b
unfolding calls_of
calls_of-end zero l b h = refl
calls_of-end (suc n) l b h = rw (le-ltb b.used (length l) h) refl

again-is : (l : List ℕ) (g : Going) (t u : List ℕ) (n : ℕ) (p : List ℕ) (g' : Going) (t' u' : List ℕ) (n' : ℕ)
    → g' ≡ (feed_of g t u (drop n l)).going → t' ≡ (feed_of g t u (drop n l)).tables → u' ≡ (feed_of g t u (drop n l)).text
    → n' ≡ n + (feed_of g t u (drop n l)).used
    → batch g' t' u' n' (p ++ (feed_of g t u (drop n l)).printed) ≡ again_of l (batch g t u n p)
unfolding again_of
again-is l g t u n p g' t' u' n' eg et eu en = rw (eg, et, eu, en) refl

module _ {l : List ℕ} {g : Going} {t u : List ℕ} {n : ℕ} {w : Batch} (k : Reaches l g t u n w) where
  -- one call
  pub reaches-next : (g' : Going) (t' u' : List ℕ) (n' : ℕ) → n < length l → g' ≡ (feed_of g t u (drop n l)).going
      → t' ≡ (feed_of g t u (drop n l)).tables → u' ≡ (feed_of g t u (drop n l)).text
      → n' ≡ n + (feed_of g t u (drop n l)).used → n < n'
      → Reaches l g' t' u' n' w
  reaches-next g' t' u' n' h eg et eu en less = go k.calls k.enough k.same
    where
      go : (m : ℕ) → length l ≤ n + m → calls_of m l (batch g t u n k.written) ≡ w → Reaches l g' t' u' n' w
      go zero e q = absurd (omega arith)
      go (suc m) e q =
          record {
            calls = m;
            written = k.written ++ (feed_of g t u (drop n l)).printed;
            enough = omega arith;
            same =
                ap (calls_of m l) (again-is l g t u n k.written g' t' u' n' eg et eu en)
                ∙ sym (calls_of-more m l (batch g t u n k.written) h)
                ∙ q;
          }

  -- the block is used up
  pub reaches_end : length l ≤ n → (g ≡ w.going) × ((t ≡ w.tables) × (u ≡ w.text))
  reaches_end h =
      let z : batch g t u n k.written ≡ w =
      sym (calls_of-end k.calls l (batch g t u n k.written) h) ∙ k.same in
      (ap (λ (b : Batch). b.going) z, (ap (λ (b : Batch). b.tables) z, ap (λ (b : Batch). b.text) z))

-- ---- a call moves on in its block, so the calls use it up

rest-long : (l : List ℕ) (n : ℕ) → n < length l → (0 < length (drop n l)) × (n + length (drop n l) ≡ length l)
rest-long l n h = let e : length (drop n l) ≡ length l - n = length-drop n l in (omega arith, omega arith)

turn_of-used : (l : List ℕ) (b : Batch) → b.used < length l
    → (b.used < (turn_of l b).used) × ((turn_of l b).used ≤ length l)
unfolding turn_of
turn_of-used l b h =
    let r = rest-long l b.used h in
    let i = used_in-bounds (drop b.used l) r.0 in
    (omega (arith, i.0), omega (arith, i.1, r.1))

pub turns_of-used : (n : ℕ) (l : List ℕ) (b : Batch) → b.used ≤ length l
    → (b.used ≤ (turns_of n l b).used) × ((turns_of n l b).used ≤ length l)
unfolding turns_of
turns_of-used zero l b h = (omega arith, h)
turns_of-used (suc n) l b h =
    choose-keeps (λ (z : Batch). (b.used ≤ z.used) × (z.used ≤ length l))
    (goes_on (length l) b.used (length b.printed)) (turns_of n l (turn_of l b)) b
    (λ e.
    let s = turn_of-used l b (goes_on-inside (length l) b.used (length b.printed) e).0 in
    let r = turns_of-used n l (turn_of l b) s.1 in
    (omega (arith, s.0, r.0), r.1))
    (λ _. (omega arith, h))

goes_on-start : (n : ℕ) → 0 < n → goes_on n 0 0 ≡ true
unfolding goes_on
goes_on-start n h = rw (lt-ltb 0 n h) refl

module _ (g : Going) (t u l : List ℕ) (h : 0 < length l) where
  feed_of-first : feed_of g t u l ≡ turns_of (length l - 1) l (turn_of l (batch g t u 0 []))
  unfolding feed_of
  feed_of-first =
      ap (λ (m : ℕ). turns_of m l (batch g t u 0 [])) (one_left h)
      ∙ turns_of-more (length l - 1) l (batch g t u 0 []) (goes_on-start (length l) h)

  pub feed_of-used : (0 < (feed_of g t u l).used) × ((feed_of g t u l).used ≤ length l)
  feed_of-used =
      let s = turn_of-used l (batch g t u 0 []) h in
      let r = turns_of-used (length l - 1) l (turn_of l (batch g t u 0 [])) s.1 in
      rw feed_of-first (omega (arith, s.0, r.0), r.1)

again_of-used : (l : List ℕ) (b : Batch) → b.used < length l
    → (b.used < (again_of l b).used) × ((again_of l b).used ≤ length l)
unfolding again_of
again_of-used l b h =
    let r = rest-long l b.used h in
    let i = feed_of-used b.going b.tables b.text (drop b.used l) r.0 in
    (omega (arith, i.0), omega (arith, i.1, r.1))

calls_of-used : (n : ℕ) (l : List ℕ) (b : Batch) → b.used ≤ length l → length l ≤ b.used + n
    → (calls_of n l b).used ≡ length l
calls_of-used zero l b h e = ap (λ (z : Batch). z.used) (calls_of-end zero l b (omega arith)) ∙ omega arith
calls_of-used (suc n) l b h e =
    ⊎_elim
    (λ (i : b.used < length l).
    let s = again_of-used l b i in
    ap (λ (z : Batch). z.used) (calls_of-more n l b i)
    ∙ calls_of-used n l (again_of l b) s.1 (omega (arith, s.0)))
    (λ (i : length l ≤ b.used). ap (λ (z : Batch). z.used) (calls_of-end (suc n) l b i) ∙ omega arith)
    (split b.used (length l))

pub block_of-used : (g : Going) (t u l : List ℕ) → (block_of g t u l).used ≡ length l
unfolding block_of
block_of-used g t u l = calls_of-used (length l) l (batch g t u 0 []) (omega arith) (omega arith)
