-- A text in blocks is cut into the lines that it has whole, wherever a block ends: as far as they are
-- kept they are the same. Assumes nothing.
use Prim.Native.Nat.{ℕ, suc, ◌+◌, ◌<◌, ◌≤◌}
use mathlib.Core.Path.{◌≡◌, refl, sym, ap, ◌∙◌}
use mathlib.Core.Bool.{Bool, true, false}
use mathlib.Core.Logic.{⊎_elim}
use mathlib.Core.List.{List, [], ◌∷◌, ◌++◌, append-nil, map}
use native.Mathlib.Omega.{arith}
use native.Mathlib.Nat.{not-suc-le-zero}
use lib.ListN.{length, take, drop}
use lib.Seq.{take_all, take-append-le, take-take, length-take-le, drop-length, append_snoc}
use lib.Dec.{eqb}
use borrow.Author.Tests.{ne_eqb, lt-ltb, le-ltb}
use Rattle.octets.specs.Bytes.{index_of, index_after}
use Rattle.lists.specs.Choice.{choose}
use Rattle.lists.proofs.Choice.{split}
use Rattle.texts.specs.Lines.{line_feed, lines_from, ends_in, line_in, held_in, used_in}
use Rattle.texts.specs.Engine.Gathers.{open_from}

-- ---- n bytes of each line are kept

abbrev pub kept_lines : ℕ → List (List ℕ) → List (List ℕ)
kept_lines n lines = map (take n) lines

-- one more byte
short-snoc : (n : ℕ) (x : List ℕ) (y : ℕ) → take n (take n x ++ y ∷ []) ≡ take n (x ++ y ∷ [])
short-snoc n x y =
    ⊎_elim
    (λ (h : length x < n). ap (λ (l : List ℕ). take n (l ++ y ∷ [])) (take_all n x (omega arith)))
    (λ (h : n ≤ length x).
    let l : length (take n x) ≡ n = length-take-le n x h in
    take-append-le n (take n x) (y ∷ []) (omega arith) ∙ take-take n n x (omega arith)
    ∙ sym (take-append-le n x (y ∷ []) h))
    (split (length x) n)

short_none : (n : ℕ) (x : List ℕ) → 0 < n → eqb (length (take n x)) 0 ≡ eqb (length x) 0
short_none n x some =
    ⊎_elim
    (λ (h : length x < n). ap (λ (l : List ℕ). eqb (length l) 0) (take_all n x (omega arith)))
    (λ (h : n ≤ length x).
    let l : length (take n x) ≡ n = length-take-le n x h in
    ne_eqb (length (take n x)) 0 (λ (q : length (take n x) ≡ 0). omega arith)
    ∙ sym (ne_eqb (length x) 0 (λ (q : length x ≡ 0). omega arith)))
    (split (length x) n)

first_short : (n : ℕ) (x : List ℕ) (rest : List (List ℕ)) → kept_lines n (take n x ∷ rest) ≡ kept_lines n (x ∷ rest)
first_short n x rest = ap (λ (l : List ℕ). l ∷ kept_lines n rest) (take-take n n x (omega arith))

-- a line that began with more than is kept
lines_from-short : (n : ℕ) (x bytes : List ℕ) → 0 < n
    → kept_lines n (lines_from (take n x) bytes) ≡ kept_lines n (lines_from x bytes)
unfolding lines_from
lines_from-short n x [] some = rw (short_none n x some) (go (eqb (length x) 0))
  where
    go : (z : Bool) → kept_lines n (choose z [] (take n x ∷ [])) ≡ kept_lines n (choose z [] (x ∷ []))
    go true = refl
    go false = first_short n x []
lines_from-short n x (y ∷ rest) some = go (λ k. lines_from-short n k rest some) (eqb y line_feed)
  where
    go : ((k : List ℕ) → kept_lines n (lines_from (take n k) rest) ≡ kept_lines n (lines_from k rest))
        → (z : Bool) → kept_lines n (choose z (take n x ∷ lines_from [] rest) (lines_from (take n x ++ y ∷ []) rest))
        ≡ kept_lines n (choose z (x ∷ lines_from [] rest) (lines_from (x ++ y ∷ []) rest))
    go f true = first_short n x (lines_from [] rest)
    go f false =
        sym (f (take n x ++ y ∷ []))
        ∙ ap (λ (l : List ℕ). kept_lines n (lines_from l rest)) (short-snoc n x y)
        ∙ f (x ++ y ∷ [])

-- ---- the bytes l of a block, whatever comes after them

lines_from-ended : (x l more : List ℕ) → index_of line_feed l < length l
    → lines_from x (l ++ more) ≡ (x ++ take (index_of line_feed l) l) ∷ lines_from []
    (drop (index_of line_feed l + 1) l ++ more)
unfolding lines_from index_of index_after
lines_from-ended x [] more h = absurd (not-suc-le-zero h)
lines_from-ended x (y ∷ l) more h = go (λ k g. lines_from-ended k l more g) (eqb y line_feed) h
  where
    go : ((k : List ℕ) → index_of line_feed l < length l
        → lines_from k (l ++ more) ≡ (k ++ take (index_of line_feed l) l) ∷ lines_from []
        (drop (index_of line_feed l + 1) l ++ more))
        → (z : Bool) → index_after z (index_of line_feed l) < suc (length l)
        → choose z (x ∷ lines_from [] (l ++ more)) (lines_from (x ++ y ∷ []) (l ++ more))
        ≡ (x ++ take (index_after z (index_of line_feed l)) (y ∷ l)) ∷ lines_from []
        (drop (index_after z (index_of line_feed l) + 1) (y ∷ l) ++ more)
    go f true g = ap (λ (k : List ℕ). k ∷ lines_from [] (l ++ more)) (sym (append-nil x))
    go f false g =
        let q : suc (index_of line_feed l) + 1 ≡ suc (index_of line_feed l + 1) = omega arith in
        f (x ++ y ∷ []) (omega arith)
        ∙ ap (λ (k : List ℕ). k ∷ lines_from [] (drop (index_of line_feed l + 1) l ++ more))
        (append_snoc x y (take (index_of line_feed l) l))
        ∙ ap (λ (n : ℕ). (x ++ y ∷ take (index_of line_feed l) l) ∷ lines_from [] (drop n (y ∷ l) ++ more)) (sym q)

lines_from-open : (x l more : List ℕ) → length l ≤ index_of line_feed l → lines_from x (l ++ more) ≡ lines_from (x ++ l) more
unfolding lines_from index_of index_after
lines_from-open x [] more h = ap (λ (k : List ℕ). lines_from k more) (sym (append-nil x))
lines_from-open x (y ∷ l) more h = go (λ k g. lines_from-open k l more g) (eqb y line_feed) h
  where
    go : ((k : List ℕ) → length l ≤ index_of line_feed l → lines_from k (l ++ more) ≡ lines_from (k ++ l) more)
        → (z : Bool) → suc (length l) ≤ index_after z (index_of line_feed l)
        → choose z (x ∷ lines_from [] (l ++ more)) (lines_from (x ++ y ∷ []) (l ++ more)) ≡ lines_from (x ++ y ∷ l) more
    go f true g = absurd (not-suc-le-zero g)
    go f false g = f (x ++ y ∷ []) (omega arith) ∙ ap (λ (k : List ℕ). lines_from k more) (append_snoc x y l)

-- what is gathered, and what is left after it, are what was left before it
pub gather-left : (n : ℕ) (x l more : List ℕ) → 0 < n
    → kept_lines n (lines_from x (l ++ more))
    ≡ choose (ends_in l) (line_in n x l ∷ []) [] ++ kept_lines n (lines_from (held_in n x l) (drop (used_in l) l ++ more))
unfolding ends_in line_in
gather-left n x l more some =
    ⊎_elim
    (λ (h : index_of line_feed l < length l).
    rw (lt-ltb (index_of line_feed l) (length l) h) (ap (kept_lines n) (lines_from-ended x l more h)))
    (λ (h : length l ≤ index_of line_feed l).
    rw (le-ltb (index_of line_feed l) (length l) h, take_all (index_of line_feed l) l h, drop-length l)
    (ap (kept_lines n) (lines_from-open x l more h) ∙ sym (lines_from-short n (x ++ l) more some)))
    (split (index_of line_feed l) (length l))

-- a text cut behind a line feed
pub lines_from-cut : (x a b : List ℕ)
    → lines_from x (a ++ line_feed ∷ b) ≡ lines_from x (a ++ line_feed ∷ []) ++ lines_from [] b
unfolding lines_from
lines_from-cut x [] b = refl
lines_from-cut x (y ∷ a) b = go (λ k. lines_from-cut k a b) (eqb y line_feed)
  where
    go : ((k : List ℕ) → lines_from k (a ++ line_feed ∷ b) ≡ lines_from k (a ++ line_feed ∷ []) ++ lines_from [] b)
        → (z : Bool) → choose z (x ∷ lines_from [] (a ++ line_feed ∷ b)) (lines_from (x ++ y ∷ []) (a ++ line_feed ∷ b))
        ≡ choose z (x ∷ lines_from [] (a ++ line_feed ∷ [])) (lines_from (x ++ y ∷ []) (a ++ line_feed ∷ []))
        ++ lines_from [] b
    go f true = ap (λ (l : List (List ℕ)). x ∷ l) (f [])
    go f false = f (x ++ y ∷ [])

-- ---- what has come of the next line

pub open_from-end : (x : List ℕ) → open_from x [] ≡ x
unfolding open_from
open_from-end x = refl

open_from-short : (n : ℕ) (x l : List ℕ) → take n (open_from (take n x) l) ≡ take n (open_from x l)
unfolding open_from
open_from-short n x [] = take-take n n x (omega arith)
open_from-short n x (y ∷ l) = go (λ k. open_from-short n k l) (eqb y line_feed)
  where
    go : ((k : List ℕ) → take n (open_from (take n k) l) ≡ take n (open_from k l))
        → (z : Bool) → take n (choose z (open_from [] l) (open_from (take n x ++ y ∷ []) l))
        ≡ take n (choose z (open_from [] l) (open_from (x ++ y ∷ []) l))
    go f true = refl
    go f false =
        sym (f (take n x ++ y ∷ [])) ∙ ap (λ (k : List ℕ). take n (open_from k l)) (short-snoc n x y)
        ∙ f (x ++ y ∷ [])

open_from-ended : (x l : List ℕ) → index_of line_feed l < length l
    → open_from x l ≡ open_from [] (drop (index_of line_feed l + 1) l)
unfolding open_from index_of index_after
open_from-ended x [] h = absurd (not-suc-le-zero h)
open_from-ended x (y ∷ l) h = go (λ k g. open_from-ended k l g) (eqb y line_feed) h
  where
    go : ((k : List ℕ) → index_of line_feed l < length l → open_from k l ≡ open_from [] (drop (index_of line_feed l + 1) l))
        → (z : Bool) → index_after z (index_of line_feed l) < suc (length l)
        → choose z (open_from [] l) (open_from (x ++ y ∷ []) l)
        ≡ open_from [] (drop (index_after z (index_of line_feed l) + 1) (y ∷ l))
    go f true g = refl
    go f false g =
        let q : suc (index_of line_feed l) + 1 ≡ suc (index_of line_feed l + 1) = omega arith in
        f (x ++ y ∷ []) (omega arith) ∙ ap (λ (n : ℕ). open_from [] (drop n (y ∷ l))) (sym q)

open_from-open : (x l : List ℕ) → length l ≤ index_of line_feed l → open_from x l ≡ x ++ l
unfolding open_from index_of index_after
open_from-open x [] h = sym (append-nil x)
open_from-open x (y ∷ l) h = go (λ k g. open_from-open k l g) (eqb y line_feed) h
  where
    go : ((k : List ℕ) → length l ≤ index_of line_feed l → open_from k l ≡ k ++ l)
        → (z : Bool) → suc (length l) ≤ index_after z (index_of line_feed l)
        → choose z (open_from [] l) (open_from (x ++ y ∷ []) l) ≡ x ++ y ∷ l
    go f true g = absurd (not-suc-le-zero g)
    go f false g = f (x ++ y ∷ []) (omega arith) ∙ append_snoc x y l

-- as far as it is kept it is the same after each line that is gathered
pub gather-next : (n : ℕ) (x l : List ℕ)
    → take n (open_from (held_in n x l) (drop (used_in l) l)) ≡ take n (open_from x l)
unfolding ends_in line_in
gather-next n x l =
    ⊎_elim
    (λ (h : index_of line_feed l < length l).
    rw (lt-ltb (index_of line_feed l) (length l) h) (sym (ap (take n) (open_from-ended x l h))))
    (λ (h : length l ≤ index_of line_feed l).
    rw (le-ltb (index_of line_feed l) (length l) h, take_all (index_of line_feed l) l h, drop-length l)
    (open_from-short n (x ++ l) [] ∙ ap (take n) (open_from-end (x ++ l) ∙ sym (open_from-open x l h))))
    (split (index_of line_feed l) (length l))
