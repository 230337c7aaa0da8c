-- A sheet is what its parts are: fed in blocks it prints what it prints whole, wherever a block
-- ends, and cut between two lines it may go on in a second run. Assumes nothing.
use Prim.Native.Nat.{ℕ, zero, suc, ◌+◌, ◌<◌, ◌≤◌}
use mathlib.Core.Path.{◌≡◌, refl, sym, ap, ◌∙◌}
use mathlib.Core.Bool.{Bool, true, false}
use mathlib.Core.Logic.{⊎_elim}
use mathlib.Core.List.{List, [], ◌∷◌, ◌++◌, append_assoc, append-nil}
use native.Mathlib.Omega.{arith}
use lib.ListN.{length, take, drop}
use lib.Seq.{take_all, length-take-le, drop-length, drop-drop}
use lib.Dec.{ltb, eqb}
use borrow.Author.Tests.{lt-leb}
use Rattle.lists.specs.Choice.{choose}
use Rattle.lists.proofs.Choice.{split, choose-keeps}
use Rattle.display.specs.declared.Display.{Display}
use Rattle.texts.specs.Lines.{line_feed, lines_from, ends_in, line_in, held_in, used_in}
use Rattle.texts.proofs.GatherLaws.{held_in-is}
use Rattle.texts.proofs.CutLaws.{kept_lines, gather-left, lines_from-cut}
use Rattle.line.specs.Sizes.{most_digits}
use Rattle.line.specs.Line.{bad_of, outcome_of, Ran, idle, line_of}
use Rattle.lines.specs.declared.blocks.Going.{Going}
use Rattle.lines.specs.Sizes.{most_kept}
use Rattle.lines.specs.Sheet.{after, lines_of, sheet_of, first_tables, program_of}
use Rattle.lines.specs.Blocks.{fed_run, last_run, begun, line_begun, Batch, open_of, rest_of, next_run, turn_of, goes_on}
use Rattle.lines.specs.Blocks.{turns_of, feed_of}
use Rattle.lines.specs.Calls.{Course, again_of, calls_of, block_of}
use Rattle.lines.proofs.CallLaws.{block_of-used}

-- ---- a line that is too long is one by its first bytes that are kept

too_long : (d : Display) (t x : List ℕ) → most_digits < length x → outcome_of d t x ≡ bad_of d t
unfolding outcome_of
too_long d t x h = rw (lt-leb (length x) most_digits h) refl

outcome_of-short : (d : Display) (t x : List ℕ) → outcome_of d t (take most_kept x) ≡ outcome_of d t x
outcome_of-short d t x =
    ⊎_elim
    (λ (h : length x < most_kept + 1). ap (outcome_of d t) (take_all most_kept x (omega arith)))
    (λ (h : most_kept + 1 ≤ length x).
    let l : length (take most_kept x) ≡ most_kept = length-take-le most_kept x (omega arith) in
    too_long d t (take most_kept x) (omega arith) ∙ sym (too_long d t x (omega arith)))
    (split (length x) (most_kept + 1))

line_of-short : (d : Display) (t x : List ℕ) → line_of d t (take most_kept x) ≡ line_of d t x
unfolding line_of
line_of-short d t x = rw (outcome_of-short d t x) refl

lines_of-kept : (d : Display) (t : List ℕ) (lines : List (List ℕ))
    → lines_of d t (kept_lines most_kept lines) ≡ lines_of d t lines
unfolding lines_of
lines_of-kept d t [] = refl
lines_of-kept d t (x ∷ rest) =
    let r = line_of d t x in
    rw (line_of-short d t x) (ap (after r.printed) (lines_of-kept r.state r.tables rest))

-- ---- the bytes l of a block, whatever comes after them

-- a run, and then lines
abbrev ran_then : Ran → List (List ℕ) → Ran
ran_then r lines = after r.printed (lines_of r.state r.tables lines)

-- the bytes l fed to the end of one line at most, and what is left after it, are together what was left before
line-left : (d : Display) (t x l more : List ℕ)
    → lines_of d t (lines_from x (l ++ more))
    ≡ ran_then (fed_run d t x l) (lines_from (held_in most_kept x l) (drop (used_in l) l ++ more))
unfolding fed_run lines_of
line-left d t x l more =
    sym (lines_of-kept d t (lines_from x (l ++ more)))
    ∙ ap (lines_of d t) (gather-left most_kept x l more (omega arith))
    ∙ go (ends_in l) (lines_from (held_in most_kept x l) (drop (used_in l) l ++ more))
  where
    go : (z : Bool) (rest : List (List ℕ))
        → lines_of d t (choose z (line_in most_kept x l ∷ []) [] ++ kept_lines most_kept rest)
        ≡ ran_then (choose z (line_of d t (line_in most_kept x l)) (idle d t)) rest
    go true rest =
        let r = line_of d t (line_in most_kept x l) in
        ap (after r.printed) (lines_of-kept r.state r.tables rest)
    go false rest = lines_of-kept d t rest

-- ---- a call on the bytes l of a block

after-after : (p q : List ℕ) (r : Ran) → after p (after q r) ≡ after (p ++ q) r
after-after p q r =
    ap (λ (z : List ℕ). record { state = r.state; tables = r.tables; printed = z })
    (sym (append_assoc p q r.printed))

-- a batch, and what is left after it
abbrev pub batch_then : List ℕ → List ℕ → Batch → Ran
batch_then l more b =
    after b.printed (lines_of b.going.state b.tables (lines_from (open_of b) (rest_of l b ++ more)))

-- one line more leaves them the same together
turn_of-left : (l more : List ℕ) (b : Batch) → batch_then l more b ≡ batch_then l more (turn_of l b)
unfolding turn_of next_run
turn_of-left l more b =
    ap (after b.printed) (line-left b.going.state b.tables (open_of b) (rest_of l b) more)
    ∙ after-after b.printed (next_run l b).printed
    (lines_of (next_run l b).state (next_run l b).tables
    (lines_from (held_in most_kept (open_of b) (rest_of l b)) (drop (used_in (rest_of l b)) (rest_of l b) ++ more)))
    ∙ rw (held_in-is most_kept (open_of b) (rest_of l b) b.text, drop-drop (used_in (rest_of l b)) b.used l) refl

turns_of-left : (n : ℕ) (l more : List ℕ) (b : Batch) → batch_then l more b ≡ batch_then l more (turns_of n l b)
unfolding turns_of
turns_of-left zero l more b = refl
turns_of-left (suc n) l more b =
    choose-keeps (λ (z : Batch). batch_then l more b ≡ batch_then l more z)
    (goes_on (length l) b.used (length b.printed)) (turns_of n l (turn_of l b)) b
    (λ _. turn_of-left l more b ∙ turns_of-left n l more (turn_of l b))
    (λ _. refl)

-- what a call prints, and what is left after it, are what was left before it
pub feed-left : (g : Going) (t u l more : List ℕ)
    → lines_of g.state t (lines_from (line_begun g u) (l ++ more)) ≡ batch_then l more (feed_of g t u l)
unfolding feed_of
feed-left g t u l more =
    turns_of-left (length l) l more (record { going = g; tables = t; text = u; used = 0; printed = [] })

-- so it does not matter whether a block ends behind l
pub feed-border : (g : Going) (t u l m more : List ℕ)
    → batch_then l (m ++ more) (feed_of g t u l) ≡ batch_then (l ++ m) more (feed_of g t u (l ++ m))
feed-border g t u l m more =
    sym (feed-left g t u l (m ++ more))
    ∙ ap (λ (z : List ℕ). lines_of g.state t (lines_from (line_begun g u) z)) (sym (append_assoc l m more))
    ∙ feed-left g t u (l ++ m) more

-- and what `finish` prints is all that was left
pub finish-left : (d : Display) (t x : List ℕ) → lines_of d t (lines_from x []) ≡ last_run d t x
unfolding lines_from lines_of last_run
finish-left d t x = go (eqb (length x) 0)
  where
    go : (z : Bool) → lines_of d t (choose z [] (x ∷ [])) ≡ choose z (idle d t) (line_of d t x)
    go true = refl
    go false =
        ap (λ (p : List ℕ). record { state = (line_of d t x).state; tables = (line_of d t x).tables; printed = p })
        (append-nil (line_of d t x).printed)

-- ---- the program's calls

-- calls in a row make of the bytes what their lines do
pub course-left : {g : Going} {t u bytes : List ℕ} {r : Ran} → Course g t u bytes r
    → r ≡ lines_of g.state t (lines_from (line_begun g u) bytes)
course-left (Course.at-end g t u) = sym (finish-left g.state t (line_begun g u))
course-left (Course.by-feed g t u l more r f) =
    ap (after (feed_of g t u l).printed) (course-left f) ∙ sym (feed-left g t u l more)

-- from where a sheet begins, and zeros, they print what the program is to print, however the sheet came
-- and whatever the text's buffer held
pub course-program : (u bytes : List ℕ) (r : Ran) → Course begun first_tables u bytes r → r.printed ≡ program_of bytes
unfolding program_of sheet_of
course-program u bytes r f = ap (λ (q : Ran). q.printed) (course-left f)

-- ---- a block in as many calls as it takes

again_of-left : (l more : List ℕ) (b : Batch) → batch_then l more b ≡ batch_then l more (again_of l b)
unfolding again_of
again_of-left l more b =
    let f = feed_of b.going b.tables b.text (rest_of l b) in
    ap (after b.printed) (feed-left b.going b.tables b.text (rest_of l b) more)
    ∙ after-after b.printed f.printed
    (lines_of f.going.state f.tables (lines_from (open_of f) (rest_of (rest_of l b) f ++ more)))
    ∙ rw (drop-drop f.used b.used l) refl

calls_of-left : (n : ℕ) (l more : List ℕ) (b : Batch) → batch_then l more b ≡ batch_then l more (calls_of n l b)
unfolding calls_of
calls_of-left zero l more b = refl
calls_of-left (suc n) l more b =
    choose-keeps (λ (z : Batch). batch_then l more b ≡ batch_then l more z) (ltb b.used (length l))
    (calls_of n l (again_of l b)) b
    (λ _. again_of-left l more b ∙ calls_of-left n l more (again_of l b))
    (λ _. refl)

block-then : (g : Going) (t u l more : List ℕ)
    → lines_of g.state t (lines_from (line_begun g u) (l ++ more)) ≡ batch_then l more (block_of g t u l)
unfolding block_of
block-then g t u l more =
    calls_of-left (length l) l more (record { going = g; tables = t; text = u; used = 0; printed = [] })

-- the block is used up: what was left before it is what they print, and what comes after it
pub block-left : (g : Going) (t u l more : List ℕ)
    → lines_of g.state t (lines_from (line_begun g u) (l ++ more))
    ≡ after (block_of g t u l).printed
    (lines_of (block_of g t u l).going.state (block_of g t u l).tables (lines_from (open_of (block_of g t u l)) more))
block-left g t u l more =
    let b = block_of g t u l in
    block-then g t u l more
    ∙ ap (λ (z : List ℕ). after b.printed (lines_of b.going.state b.tables (lines_from (open_of b) (z ++ more))))
    (ap (λ (k : ℕ). drop k l) (block_of-used g t u l) ∙ drop-length l)

-- ---- two runs

lines_of-append : (d : Display) (t : List ℕ) (xs ys : List (List ℕ))
    → lines_of d t (xs ++ ys) ≡ after (lines_of d t xs).printed
    (lines_of (lines_of d t xs).state (lines_of d t xs).tables ys)
unfolding lines_of
lines_of-append d t [] ys = refl
lines_of-append d t (x ∷ xs) ys =
    let r = line_of d t x in
    let q = lines_of r.state r.tables xs in
    ap (after r.printed) (lines_of-append r.state r.tables xs ys)
    ∙ after-after r.printed q.printed (lines_of q.state q.tables ys)

-- a sheet cut behind a line feed, and fed in two runs of which the second finds what the first
-- leaves
pub sheet_of-cut : (d : Display) (t a b : List ℕ)
    → sheet_of d t (a ++ line_feed ∷ b)
    ≡ after (sheet_of d t (a ++ line_feed ∷ [])).printed
    (sheet_of (sheet_of d t (a ++ line_feed ∷ [])).state (sheet_of d t (a ++ line_feed ∷ [])).tables b)
unfolding sheet_of
sheet_of-cut d t a b =
    ap (lines_of d t) (lines_from-cut [] a b) ∙ lines_of-append d t (lines_from [] (a ++ line_feed ∷ [])) (lines_from [] b)
