-- Lines gathered from blocks and fed one after the other, as the code leaves them. Assumes nothing.
use Prim.Native.Nat.{ℕ, zero, suc, ◌+◌, ◌-◌, ◌<◌, ◌≤◌, min}
use mathlib.Core.Path.{◌≡◌, refl, sym, ap, ◌∙◌}
use mathlib.Core.Bool.{Bool, true, false, false≢true}
use mathlib.Core.List.{List, ◌++◌}
use native.Mathlib.Omega.{arith}
use lib.ListN.{length, take, drop, length-drop}
use lib.Seq.{length-take-le, drop_at, drop-drop}
use lib.Dec.{ltb, leb}
use borrow.Author.Tests.{lt-ltb, le-leb, eq-eqb, ne_eqb, ltb-true, leb-true}
use Rattle.octets.specs.Bytes.{index_of}
use Rattle.lists.specs.Over.{over}
use Rattle.lists.proofs.Choice.{both_left, both_right}
use Rattle.lists.proofs.Over.{over_none, take-over}
use Rattle.texts.specs.declared.Gathered.{Gathered}
use Rattle.texts.specs.Lines.{line_feed, ends_in, line_in, used_in}
use Rattle.texts.proofs.GatherLaws.{held-front, GatheredAs, used_in-bounds, rest-is}
use Rattle.texts.proofs.PrintLaws.{front_long, printed-behind}
use Rattle.line.specs.declared.Printed.{Printed}
use Rattle.line.specs.Sizes.{most_printed}
use Rattle.line.specs.Line.{Ran, line_of, printed_of}
use Rattle.lines.specs.declared.blocks.Going.{Going}
use Rattle.lines.specs.declared.blocks.Fed.{Fed}
use Rattle.lines.specs.Sizes.{most_kept, out_len}
use Rattle.lines.specs.Blocks.{fed_run, last_run, line_begun, Batch, next_run, turn_of, goes_on, turns_of}
use Rattle.lines.specs.Blocks.{feed_of, fed_of, finish_of}
use Rattle.lines.specs.Engine.Turns.{line_run, line_fed, batch_at}

-- ---- `feed_line`: r is what has been gathered from the bytes l into the text u, which was s

module _ (g : Going) (t l s u : List ℕ) (r : Gathered) (k : GatheredAs most_kept (line_begun g s) l s u r) where
  abbrev Feeds : Fed → List ℕ → List ℕ → List ℕ → Type 0
  Feeds f t' o₀ o =
      (f ≡ line_fed g t s l) × ((t' ≡ (line_run g t s l).tables)
      × ((u ≡ over (line_in most_kept (line_begun g s) l) s)
      × ((o ≡ over (line_run g t s l).printed o₀) × (f.count ≤ most_printed))))

  pub feed-ended : (p : Printed) (t' o₀ o : List ℕ) → r.ended ≡ true
      → p ≡ printed_of (line_of g.state t (take r.kept u))
      → t' ≡ (line_of g.state t (take r.kept u)).tables
      → o ≡ over (line_of g.state t (take r.kept u)).printed o₀ → p.count ≤ most_printed
      → Feeds (record { going = record { state = p.state; held = 0 }; used = r.used; count = p.count }) t' o₀ o
  unfolding fed_run
  feed-ended p t' o₀ o h ep et eo fits =
      let z : ends_in l ≡ true = sym k.ended ∙ h in
      let w : line_of g.state t (take r.kept u) ≡ line_of g.state t (line_in most_kept (line_begun g s) l) =
      ap (line_of g.state t) k.line in
      let n : r.used ≡ index_of line_feed l + 1 = k.used ∙ rw z refl in
      rw z (
        rw (ep, w, n) refl,
        (et ∙ ap (λ (q : Ran). q.tables) w, (k.text, (eo ∙ ap (λ (q : Ran). over q.printed o₀) w, fits))),
      )

  pub feed-open : (o : List ℕ) → r.ended ≡ false
      → Feeds (record { going = record { state = g.state; held = r.kept }; used = r.used; count = 0 }) t o o
  unfolding fed_run
  feed-open o h =
      let z : ends_in l ≡ false = sym k.ended ∙ h in
      let n : r.used ≡ length l = k.used ∙ rw z refl in
      rw z (
        rw (k.kept, n) refl,
        (refl, (k.text, (over_none o, omega arith))),
      )

-- ---- `turn`

-- f is what `feed_line` answers on the rest of the block l, and p the rest of the output
module _ (c f : Fed) (t u l o t' u' p : List ℕ) (inside : c.used < length l) (room : c.count + most_printed ≤ out_len)
    (long : length o ≡ out_len)
    (ef : f ≡ line_fed c.going t u (take (length l - c.used) (drop c.used l)))
    (et : t' ≡ (line_run c.going t u (take (length l - c.used) (drop c.used l))).tables)
    (eu : u' ≡ over (line_in most_kept (line_begun c.going u) (take (length l - c.used) (drop c.used l))) u)
    (ep : p ≡ over (line_run c.going t u (take (length l - c.used) (drop c.used l))).printed
    (take (length o - c.count) (drop c.count o)))
    (small : f.count ≤ most_printed) where
  abbrev printed : List ℕ
  printed = (line_run c.going t u (drop c.used l)).printed

  fed-is : f ≡ line_fed c.going t u (drop c.used l)
  fed-is = ef ∙ ap (λ (z : List ℕ). line_fed c.going t u z) (rest-is l c.used)

  count-is : f.count ≡ length printed
  count-is = ap (λ (q : Fed). q.count) fed-is

  out-is : take c.count o ++ (p ++ drop (length o - c.count) (drop c.count o))
      ≡ over (take c.count o ++ printed) o
  out-is =
      ap (λ (z : List ℕ). take c.count o ++ (z ++ drop (length o - c.count) (drop c.count o)))
      (ep ∙ ap (λ (z : List ℕ). over (line_run c.going t u z).printed
      (take (length o - c.count) (drop c.count o))) (rest-is l c.used))
      ∙ printed-behind o printed c.count (omega (arith, count-is))

  front_out : take (c.count + f.count) (over (take c.count o ++ printed) o) ≡ take c.count o ++ printed
  front_out =
      take-over (take c.count o ++ printed) o (c.count + f.count)
      (omega (arith, count-is, front_long o printed c.count (omega (arith, count-is))))

  abbrev next : Fed
  next = record { going = f.going; used = c.used + f.used; count = c.count + f.count }

  pub turn_is : batch_at next t' u' (take c.count o ++ (p ++ drop (length o - c.count) (drop c.count o)))
      ≡ turn_of l (batch_at c t u o)
  unfolding turn_of next_run
  turn_is =
      rw (out-is, front_out, et, eu, rest-is l c.used, fed-is) refl

  pub turn-bounds : (c.used < c.used + f.used) × (c.used + f.used ≤ length l) × (c.count ≤ c.count + f.count)
      × (c.count + f.count ≤ out_len)
  turn-bounds =
      let a : length (drop c.used l) ≡ length l - c.used = length-drop c.used l in
      let b = used_in-bounds (drop c.used l) (omega arith) in
      let e : f.used ≡ used_in (drop c.used l) = ap (λ (q : Fed). q.used) fed-is in
      (omega (arith, b.0), omega (arith, b.1), omega arith, omega arith)

  pub turn-over : take c.count o ++ (p ++ drop (length o - c.count) (drop c.count o))
      ≡ over (take (c.count + f.count) (take c.count o ++ (p ++ drop (length o - c.count) (drop c.count o)))) o
  turn-over = rw (out-is, front_out) refl

-- ---- `goes_on`

pub goes_on-inside : (n used count : ℕ) → goes_on n used count ≡ true → (used < n) × (count + most_printed ≤ out_len)
unfolding goes_on
goes_on-inside n used count e = (
  ltb-true used n (both_left (ltb used n) (leb (count + most_printed) out_len) e),
  leb-true (count + most_printed) out_len (both_right (ltb used n) (leb (count + most_printed) out_len) e),
)

-- the first line has room, so a call moves on
pub goes_on-first : (n used count : ℕ) → goes_on n used count ≡ false → (used ≡ 0 → count ≡ 0) → 0 < n → 0 < used
unfolding goes_on
goes_on-first n zero count e z h =
    let k : count + most_printed ≤ out_len = omega (arith, z refl) in
    absurd (false≢true (sym e ∙ rw (lt-ltb 0 n h, le-leb (count + most_printed) out_len k) refl))
goes_on-first n (suc used) count e z h = omega arith

-- ---- `feed_in`: the batch b leads to w, and turns enough are left

pub record Leads (l : List ℕ) (b w : Batch) : Type 0 where
  pub turns : ℕ
  pub enough : length l ≤ b.used + turns
  pub same : turns_of turns l b ≡ w

pub leads-first : (g : Going) (t u l o : List ℕ)
    → Leads l (batch_at (record { going = g; used = 0; count = 0 }) t u o) (feed_of g t u l)
unfolding feed_of
leads-first g t u l o = record { turns = length l; enough = omega arith; same = refl }

abbrev passes : List ℕ → Batch → Bool
passes l b = goes_on (length l) b.used (length b.printed)

pub turns_of-more : (n : ℕ) (l : List ℕ) (b : Batch) → passes l b ≡ true → turns_of (suc n) l b ≡ turns_of n l (turn_of l b)
unfolding turns_of
turns_of-more n l b e = rw e refl

turns_of-end : (n : ℕ) (l : List ℕ) (b : Batch) → passes l b ≡ false → turns_of n l b ≡ b
unfolding turns_of
turns_of-end zero l b e = refl
turns_of-end (suc n) l b e = rw e refl

leads-turn : (l : List ℕ) (b w : Batch) → Leads l b w → passes l b ≡ true → b.used < (turn_of l b).used
    → Leads l (turn_of l b) w
leads-turn l b w k e h = go k.turns k.enough k.same
  where
    go : (n : ℕ) → length l ≤ b.used + n → turns_of n l b ≡ w → Leads l (turn_of l b) w
    go zero m q = absurd (let i = (goes_on-inside (length l) b.used (length b.printed) e).0 in omega arith)
    go (suc n) m q = record { turns = n; enough = omega arith; same = sym (turns_of-more n l b e) ∙ q }

leads-end : (l : List ℕ) (b w : Batch) → Leads l b w → passes l b ≡ false → b ≡ w
leads-end l b w k e = sym (turns_of-end k.turns l b e) ∙ k.same

-- the same with the numbers that the code has
module _ (l : List ℕ) (c : Fed) (t u o : List ℕ) (w : Batch) (long : c.count ≤ length o)
    (k : Leads l (batch_at c t u o) w) where
  printed-long : length (take c.count o) ≡ c.count
  printed-long = length-take-le c.count o long

  pub feed-turn : (c' : Fed) (t' u' o' : List ℕ) → goes_on (length l) c.used c.count ≡ true
      → batch_at c' t' u' o' ≡ turn_of l (batch_at c t u o) → c.used < c'.used → Leads l (batch_at c' t' u' o') w
  feed-turn c' t' u' o' e q h =
      let i : c'.used ≡ (turn_of l (batch_at c t u o)).used = ap (λ (b : Batch). b.used) q in
      rw q (leads-turn l (batch_at c t u o) w k (rw printed-long e) (omega arith))

  -- the loop ends
  pub feed-is : (o₀ : List ℕ) → goes_on (length l) c.used c.count ≡ false → o ≡ over (take c.count o) o₀
      → (c ≡ fed_of w) × ((t ≡ w.tables) × ((u ≡ w.text) × (o ≡ over w.printed o₀)))
  feed-is o₀ e q =
      let z : batch_at c t u o ≡ w = leads-end l (batch_at c t u o) w k (rw printed-long e) in (
        rw (← z, printed-long) refl,
        (
          ap (λ (b : Batch). b.tables) z,
          (
            ap (λ (b : Batch). b.text) z,
            q
                ∙ ap (λ (b : Batch). over b.printed o₀) z,
          ),
        ),
      )

-- what is printed of a batch that went on
pub over-over : (o₀ o o' : List ℕ) (n m : ℕ) → n ≤ m → m ≤ length o → o ≡ over (take n o) o₀ → o' ≡ over (take m o') o
    → length o' ≡ length o → o' ≡ over (take m o') o₀
unfolding over
over-over o₀ o o' n m h k e f z =
    let a : length (take n o) ≡ n = length-take-le n o (omega arith) in
    let b : length (take m o') ≡ m = length-take-le m o' (omega arith) in
    let d : drop m o ≡ drop m o₀ = go a in
    f ∙ ap (λ (i : ℕ). take m o' ++ drop i o) b ∙ ap (λ (x : List ℕ). take m o' ++ x) d
    ∙ ap (λ (i : ℕ). take m o' ++ drop i o₀) (sym b)
  where
    back : (l : List ℕ) → drop m l ≡ drop (m - n) (drop n l)
    back l = ap (λ (i : ℕ). drop i l) (let q : m ≡ n + (m - n) = omega arith in q) ∙ sym (drop-drop (m - n) n l)

    go : length (take n o) ≡ n → drop m o ≡ drop m o₀
    go a =
        back o ∙ ap (λ (l : List ℕ). drop (m - n) (drop n l)) e
        ∙ ap (drop (m - n)) (ap (λ (i : ℕ). drop n (take n o ++ drop i o₀)) a ∙ drop_at (take n o) (drop n o₀) n a)
        ∙ sym (back o₀)

-- ---- `finish_in`: n bytes are held

abbrev Finishes : Ran → Printed → List ℕ → List ℕ → List ℕ → Type 0
Finishes q r t o₀ o = (r ≡ printed_of q) × ((t ≡ q.tables) × ((o ≡ over q.printed o₀) × (r.count ≤ most_printed)))

module _ (g : Going) (t u : List ℕ) (n : ℕ) (long : length u ≡ most_kept) (en : n ≡ min g.held most_kept) where
  begun-is : take n u ≡ line_begun g u
  begun-is = held-front u g.held n (omega arith)

  begun-long : length (line_begun g u) ≡ n
  begun-long = ap length (sym begun-is) ∙ length-take-le n u (omega arith)

  pub finish-none : (o : List ℕ) → n ≡ 0 → Finishes (finish_of g t u) (record { state = g.state; count = 0 }) t o o
  unfolding last_run
  finish-none o h =
      rw (eq-eqb (length (line_begun g u)) 0 (omega (arith, begun-long))) (refl, (refl, (over_none o, omega arith)))

  pub finish-some : (r : Printed) (t' o₀ o : List ℕ) → (n ≡ 0 → ⊥) → Finishes (line_of g.state t (take n u)) r t' o₀ o
      → Finishes (finish_of g t u) r t' o₀ o
  unfolding last_run
  finish-some r t' o₀ o h q =
      rw (ne_eqb (length (line_begun g u)) 0 (λ (z : length (line_begun g u) ≡ 0). h (omega (arith, begun-long))))
      (rw begun-is at q)
