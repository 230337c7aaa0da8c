-- The calls on a block so far, as the loop over them has it. Assumes nothing.
use Prim.Native.Nat.{ℕ, zero, suc, ◌+◌, ◌<◌, ◌≤◌}
use mathlib.Core.Path.{◌≡◌, refl, sym, ap, ◌∙◌}
use mathlib.Core.Logic.{⊎_elim}
use mathlib.Core.List.{List, [], ◌++◌}
use native.Mathlib.Omega.{arith}
use lib.ListN.{length, drop}
use borrow.Author.Tests.{lt-ltb, le-ltb}
use Rattle.std.proofs.lemmas.Bool.{cases_lt}
use Rattle.lines.specs.declared.blocks.Going.{Going}
use Rattle.lines.specs.Blocks.{Batch, feed_of}
use Rattle.lines.specs.Calls.{again_of, calls_of}
use Rattle.sheet.specs.Failed.{calls_on, LeftBySome}

calls_of-more : (n : ℕ) (l : List ℕ) (b : Batch) → b.used < length l → calls_of (suc n) l b ≡ calls_of n l (again_of l b)
unfolding calls_of
calls_of-more n l b h = rw (lt-ltb b.used (length l) h) refl

calls_of-end : (n : ℕ) (l : List ℕ) (b : Batch) → length l ≤ b.used → calls_of n l b ≡ b
unfolding calls_of
calls_of-end zero l b h = refl
calls_of-end (suc n) l b h = rw (le-ltb b.used (length l) h) refl

-- n calls, and one more
calls_of-last : (n : ℕ) (l : List ℕ) (b : Batch) → (calls_of n l b).used < length l
    → calls_of (suc n) l b ≡ again_of l (calls_of n l b)
unfolding calls_of
calls_of-last zero l b h = calls_of-more zero l b h
calls_of-last (suc n) l b h =
    ⊎_elim
    (λ (i : b.used < length l).
    let e = calls_of-more n l b i in
    let k : (calls_of n l (again_of l b)).used < length l =
    rw (sym (ap (λ (z : Batch). z.used) e)) h in
    calls_of-more (suc n) l b i ∙ calls_of-last n l (again_of l b) k ∙ ap (again_of l) (sym e))
    (λ (i : length l ≤ b.used).
    let e : (calls_of (suc n) l b).used ≡ b.used = ap (λ (z : Batch). z.used) (calls_of-end (suc n) l b i) in
    absurd (omega arith))
    (cases_lt b.used (length l))

-- some calls on the block l, which found g₀, t₀ and u₀, have come to this; what they printed is written and not
-- held
pub record Called (l : List ℕ) (g₀ : Going) (t₀ u₀ : List ℕ) (g : Going) (t u : List ℕ) (n : ℕ) : Type 0 where
  pub calls : ℕ
  pub written : List ℕ
  pub same : calls_on calls l g₀ t₀ u₀ ≡ record { going = g; tables = t; text = u; used = n; printed = written }

pub called-none : (l : List ℕ) (g : Going) (t u : List ℕ) → Called l g t u g t u 0
unfolding calls_of
called-none l g t u = record { calls = 0; written = []; same = refl }

module _ {l : List ℕ} {g₀ : Going} {t₀ u₀ : List ℕ} {g : Going} {t u : List ℕ} {n : ℕ} (k : Called l g₀ t₀ u₀ g t u n) (h : n < length l) where
  -- one call more
  again-is : calls_on (suc k.calls) l g₀ t₀ u₀
      ≡ again_of l (record { going = g; tables = t; text = u; used = n; printed = k.written })
  again-is =
      calls_of-last k.calls l _ (rw k.same h) ∙ ap (again_of l) k.same

  pub called-next : (g' : Going) (t' u' : List ℕ) (n' : ℕ) → g' ≡ (feed_of g t u (drop n l)).going
      → t' ≡ (feed_of g t u (drop n l)).tables → u' ≡ (feed_of g t u (drop n l)).text
      → n' ≡ n + (feed_of g t u (drop n l)).used
      → Called l g₀ t₀ u₀ g' t' u' n'
  unfolding again_of
  called-next g' t' u' n' eg et eu en =
      record {
        calls = suc k.calls;
        written = k.written ++ (feed_of g t u (drop n l)).printed;
        same = again-is ∙ rw (eg, et, eu, en) refl;
      }

  -- one that could not be written
  pub left-by-last : (t' u' : List ℕ) → t' ≡ (feed_of g t u (drop n l)).tables → u' ≡ (feed_of g t u (drop n l)).text
      → LeftBySome l g₀ t₀ u₀ t' u'
  left-by-last t' u' et eu =
      let z = called-next _ t' u' _ refl et eu refl in
      (z.calls, (ap (λ (b : Batch). b.tables) (sym z.same), ap (λ (b : Batch). b.text) (sym z.same)))
