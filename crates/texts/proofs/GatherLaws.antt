-- A line gathered from blocks, as the code leaves it. Assumes nothing.
use Prim.Native.Nat.{ℕ, ◌+◌, ◌-◌, ◌<◌, ◌≤◌, min}
use mathlib.Core.Path.{◌≡◌, refl, sym, ap, ◌∙◌}
use mathlib.Core.Bool.{Bool, true, false}
use mathlib.Core.Logic.{⊎_elim}
use mathlib.Core.List.{List, [], ◌++◌, append_assoc, append-nil}
use native.Mathlib.Omega.{arith}
use lib.ListN.{length, take, drop, length-drop, length-append, drop_of_length-le}
use lib.Seq.{length-take-le, take_all, take-append-add, drop-drop}
use borrow.Author.Tests.{lt-ltb, le-ltb}
use Rattle.octets.specs.Bytes.{index_of}
use Rattle.lists.specs.Over.{over}
use Rattle.lists.specs.Choice.{choose}
use Rattle.lists.proofs.Choice.{split}
use Rattle.lists.proofs.Over.{take-over}
use Rattle.texts.specs.declared.Gathered.{Gathered}
use Rattle.texts.specs.Lines.{line_feed, kept_of, ends_in, line_in, held_in, used_in}
use Rattle.texts.specs.Engine.Gathers.{line_with, gathered_of}

-- ---- `keep`: n bytes are held, m of the part p have room behind them in s

module _ (s p : List ℕ) (held n m : ℕ) (en : n ≡ min held (length s)) (em : m ≡ min (length p) (length s - n)) where
  held-long : length (take n s) ≡ n
  held-long = length-take-le n s (omega arith)

  pub part-long : length (take m p) ≡ m
  part-long = length-take-le m p (omega arith)

  part-is : take (length s - n) p ≡ take m p
  part-is =
      ⊎_elim
      (λ (h : length p < length s - n). take_all (length s - n) p (omega arith) ∙ sym (take_all m p (omega arith)))
      (λ (h : length s - n ≤ length p). ap (λ (k : ℕ). take k p) (let q : length s - n ≡ m = omega arith in q))
      (split (length p) (length s - n))

  held-is : take held s ≡ take n s
  held-is =
      ⊎_elim
      (λ (h : held < length s). ap (λ (k : ℕ). take k s) (let q : held ≡ n = omega arith in q))
      (λ (h : length s ≤ held). take_all held s (omega arith) ∙ sym (take_all n s (omega arith)))
      (split held (length s))

  kept-is : kept_of (length s) (take held s) p ≡ take n s ++ take m p
  kept-is =
      let q : length s ≡ length (take n s) + (length s - n) = omega (arith, held-long) in
      ap (λ (l : List ℕ). take (length s) (l ++ p)) held-is
      ∙ ap (λ (k : ℕ). take k (take n s ++ p)) q
      ∙ take-append-add (take n s) p (length s - n)
      ∙ ap (λ (l : List ℕ). take n s ++ l) part-is

  pub kept-long : n + m ≡ length (kept_of (length s) (take held s) p)
  kept-long = sym (ap length kept-is ∙ simp length-append (omega (arith, held-long, part-long)))

  -- what is copied has room
  pub kept-room : length (take m p) ≤ length (take (length s - n) (drop n s))
  kept-room =
      let a : length (drop n s) ≡ length s - n = length-drop n s in
      omega (arith, part-long, length-take-le (length s - n) (drop n s) (omega arith))

  pub kept-over : (c : List ℕ) → c ≡ over (take m p) (take (length s - n) (drop n s))
      → take n s ++ (c ++ drop (length s - n) (drop n s)) ≡ over (kept_of (length s) (take held s) p) s
  unfolding over
  kept-over c e =
      let a : length (drop n s) ≤ length s - n = simp length-drop (omega arith) in
      let none : drop (length s - n) (drop n s) ≡ [] = drop_of_length-le (drop n s) a in
      let back : c ≡ take m p ++ drop (n + m) s =
      e
      ∙ ap (λ (l : List ℕ). take m p ++ drop (length (take m p)) l) (take_all (length s - n) (drop n s) a)
      ∙ ap (λ (k : ℕ). take m p ++ drop k (drop n s)) part-long
      ∙ ap (λ (l : List ℕ). take m p ++ l) (drop-drop m n s) in
      ap (λ (l : List ℕ). take n s ++ (c ++ l)) none
      ∙ ap (λ (l : List ℕ). take n s ++ l) (append-nil c ∙ back)
      ∙ sym (append_assoc (take n s) (take m p) (drop (n + m) s))
      ∙ ap (λ (k : ℕ). (take n s ++ take m p) ++ drop k s) kept-long
      ∙ ap (λ (l : List ℕ). l ++ drop (length (kept_of (length s) (take held s) p)) s) (sym kept-is)

-- a buffer's bytes that are held, however many are said to be
pub held-front : (s : List ℕ) (held n : ℕ) → n ≡ min held (length s) → take n s ≡ take held s
held-front s held n e = sym (held-is s [] held n 0 e (omega arith))

-- ---- `gather`: the line feed is found at `at`, and what has come of the line is kept in u

abbrev Gathers : List ℕ → ℕ → List ℕ → Gathered → List ℕ → Type 0
Gathers s held l g u =
    (g ≡ gathered_of s held l) × ((u ≡ over (line_with s held l) s) × ((g.kept ≤ length s) × (g.used ≤ length l)))

module _ (s l u : List ℕ) (held at n : ℕ) (at-is : at ≡ index_of line_feed l)
    (en : n ≡ length (kept_of (length s) (take held s) (take at l))) (small : n ≤ length s)
    (eu : u ≡ over (kept_of (length s) (take held s) (take at l)) s) where
  line-in : kept_of (length s) (take held s) (take at l) ≡ line_with s held l
  unfolding line_in
  line-in = ap (λ (k : ℕ). kept_of (length s) (take held s) (take k l)) at-is

  text-is : u ≡ over (line_with s held l) s
  text-is = eu ∙ ap (λ (z : List ℕ). over z s) line-in

  pub gather-ended : at < length l → Gathers s held l (record { kept = n; used = at + 1; ended = true }) u
  unfolding ends_in
  gather-ended h =
      let k : index_of line_feed l < length l = omega (arith, at-is) in
      simp (lt-ltb (index_of line_feed l) (length l) k) (
        rw (en, line-in, at-is) refl,
        (text-is, (small, omega arith)),
      )

  pub gather-open : length l ≤ at → at ≤ length l → Gathers s held l (record { kept = n; used = at; ended = false }) u
  unfolding ends_in
  gather-open h k =
      let m : length l ≤ index_of line_feed l = omega (arith, at-is) in
      let q : at ≡ length l = omega arith in
      simp (le-ltb (index_of line_feed l) (length l) m) (
        rw (en, line-in, q) refl,
        (text-is, (small, k)),
      )

-- what a caller with a text of n bytes relies on: g is what was gathered from l into u, which was s, of a line
-- that began with x
pub record GatheredAs (n : ℕ) (x l s u : List ℕ) (g : Gathered) : Type 0 where
  pub line : take g.kept u ≡ line_in n x l
  pub kept : g.kept ≡ length (line_in n x l)
  pub used : g.used ≡ used_in l
  pub ended : g.ended ≡ ends_in l
  pub text : u ≡ over (line_in n x l) s

pub gathered-as : (n held : ℕ) (l s u : List ℕ) (g : Gathered) → length s ≡ n → g ≡ gathered_of s held l
    → u ≡ over (line_with s held l) s → GatheredAs n (take held s) l s u g
gathered-as n held l s u g long eg eu =
    let e : line_with s held l ≡ line_in n (take held s) l = ap (λ (k : ℕ). line_in k (take held s) l) long in
    let k : g.kept ≡ length (line_with s held l) = ap (λ (q : Gathered). q.kept) eg in
    record {
      line = ap (take g.kept) eu ∙ take-over (line_with s held l) s g.kept k ∙ e;
      kept = k ∙ ap length e;
      used = ap (λ (q : Gathered). q.used) eg;
      ended = ap (λ (q : Gathered). q.ended) eg;
      text = eu ∙ ap (λ (z : List ℕ). over z s) e;
    }

-- what has come of the next line stands at the front of the text
pub held_in-is : (n : ℕ) (x l u : List ℕ) → take (length (held_in n x l)) (over (line_in n x l) u) ≡ held_in n x l
held_in-is n x l u = go (ends_in l)
  where
    go : (z : Bool) → take (length (choose z [] (line_in n x l))) (over (line_in n x l) u) ≡ choose z [] (line_in n x l)
    go true = refl
    go false = take-over (line_in n x l) u (length (line_in n x l)) refl

-- a byte at least is used up
pub used_in-bounds : (l : List ℕ) → 0 < length l → (0 < used_in l) × (used_in l ≤ length l)
unfolding ends_in
used_in-bounds l h =
    ⊎_elim
    (λ (g : index_of line_feed l < length l). rw (lt-ltb (index_of line_feed l) (length l) g) (omega arith, omega arith))
    (λ (g : length l ≤ index_of line_feed l). rw (le-ltb (index_of line_feed l) (length l) g) (h, omega arith))
    (split (index_of line_feed l) (length l))

-- the rest of a list, as it is lent
pub rest-is : (l : List ℕ) (n : ℕ) → take (length l - n) (drop n l) ≡ drop n l
rest-is l n = take_all (length l - n) (drop n l) (simp length-drop (omega arith))
