-- The writes in a run of bytes: how many there are, those of two parts, and bytes that are no item. Assumes nothing.
use mathlib.Core.Path.{◌≡◌, refl, ap, ap₂, ◌∙◌}
use mathlib.Core.List.{List, [], ◌∷◌, ◌++◌}
use Prim.Native.Nat.{ℕ, zero, suc, ◌+◌, ◌*◌, ◌/◌, ◌%◌, ◌≤◌, ◌<◌}
use native.Mathlib.Omega.{arith}
use lib.ListN.{length, drop, length-append, length-drop, get_or-append}
use lib.Seq.{drop-append-le}
use Rattle.lists.specs.Little.{little_at}
use Rattle.runs.specs.Writes.{Write, write_in, first_writes, writes_in}

pub no_writes : (run : List ℕ) → first_writes 0 run ≡ []
unfolding first_writes
no_writes run = refl

pub first-writes : (n : ℕ) (run : List ℕ) → first_writes (suc n) run ≡ write_in run ∷ first_writes n (drop 5 run)
unfolding first_writes
first-writes n run = refl

length-first : (n : ℕ) (run : List ℕ) → length (first_writes n run) ≡ n
unfolding first_writes
length-first zero run = refl
length-first (suc n) run = ap suc (length-first n (drop 5 run))

-- one for each five bytes
pub length-writes : (run : List ℕ) → length (writes_in run) ≡ length run / 5
unfolding writes_in
length-writes run = length-first (length run / 5) run

-- fewer than five bytes are none
pub writes_short : (run : List ℕ) → length run < 5 → writes_in run ≡ []
unfolding writes_in
writes_short run h = let q : length run / 5 ≡ 0 = omega arith in rw q (no_writes run)

-- five are one
pub writes_one : (run : List ℕ) → length run ≡ 5 → writes_in run ≡ write_in run ∷ []
unfolding writes_in
writes_one run h =
    let q : length run / 5 ≡ 1 = omega arith in
    rw q (first-writes 0 run ∙ ap (λ (l : List Write). write_in run ∷ l) (no_writes (drop 5 run)))

-- ---- of two parts

-- what stands behind five bytes is not looked at
same_write : (a b : List ℕ) → 5 ≤ length a → write_in (a ++ b) ≡ write_in a
unfolding little_at
same_write a b h =
    rw (
      get_or-append a b 0 0 (omega arith),
      get_or-append a b 0 1 (omega arith),
      get_or-append a b 0 (1 + 1) (omega arith),
      get_or-append a b 0 (1 + 2) (omega arith),
      get_or-append a b 0 (1 + 3) (omega arith),
    )

first-append : (m n : ℕ) (a b : List ℕ) → length a ≡ 5 * m
    → first_writes (m + n) (a ++ b) ≡ first_writes m a ++ first_writes n b
unfolding first_writes
first-append zero n [] b l = let q : 0 + n ≡ n = omega arith in rw q
first-append zero n (x ∷ a) b l = absurd (omega arith)
first-append (suc m) n a b l =
    let q : suc m + n ≡ suc (m + n) = omega arith in
    let long : length (drop 5 a) ≡ 5 * m = simp length-drop (omega arith) in
    ap (λ (k : ℕ). first_writes k (a ++ b)) q
    ∙ ap₂ (λ (w : Write) (l : List Write). w ∷ l) (same_write a b (omega arith))
    (ap (first_writes (m + n)) (drop-append-le 5 a b (omega arith)) ∙ first-append m n (drop 5 a) b long)

-- whole items in front
pub writes-append : (a b : List ℕ) → length a % 5 ≡ 0 → writes_in (a ++ b) ≡ writes_in a ++ writes_in b
unfolding writes_in
writes-append a b h =
    let q : length (a ++ b) / 5 ≡ length a / 5 + length b / 5 = simp length-append (omega arith) in
    rw q (first-append (length a / 5) (length b / 5) a b (omega arith))
