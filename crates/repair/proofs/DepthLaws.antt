-- Step 5: a depth is free whenever one is needed, afterwards no two enabled layers share one, and nothing
-- but depths has changed. Assumes nothing.
use mathlib.Core.Path.{◌≡◌, refl, sym, ap, ◌∙◌}
use mathlib.Core.Bool.{Bool, true, false, false≢true}
use mathlib.Core.Logic.{⊎_elim}
use mathlib.Core.List.{List}
use Prim.Native.Nat.{ℕ, suc, ◌+◌, ◌-◌, ◌^◌, ◌≤◌, ◌<◌}
use native.Mathlib.Omega.{arith}
use borrow.Author.Tests.{eqb-true, eqb-false, eq-eqb, lt-ltb, le-ltb}
use lib.Dec.{eqb, ltb}
use lib.ListN.{get_or, length}
use Rattle.lists.specs.Choice.{pick}
use Rattle.lists.specs.Runs.{run}
use Rattle.lists.specs.Zero.{zero_from}
use Rattle.lists.proofs.Choice.{same_or, split, refuses-not, or_else-left, or_else-right, or_else-none, both_false}
use Rattle.lists.proofs.Choice.{choose-keeps}
use Rattle.lists.proofs.First.{first-each, first-all, first_some}
use Rattle.lists.proofs.Room.{left_over}
use Rattle.lists.proofs.Run.{run-hands}
use Rattle.lists.proofs.Zero.{zero_from-hits}
use Rattle.words.specs.declared.fields.Layer.{Layer}
use Rattle.words.specs.Fields.{layer_of}
use Rattle.words.specs.Order.{here}
use Rattle.words.specs.Check.{Plain, clash_of, clash_at, clash_below}
use Rattle.words.specs.Change.{with_depth}
use Rattle.words.proofs.CheckLaws.{clash-apart}
use Rattle.words.proofs.ChangeLaws.{Kept, kept-depth, at_depth, with_depth-same}
use Rattle.repair.specs.Steps.{holds_at, held_at, taken_at, free_of, spread_at, spread}

-- ---- depths held

-- no enabled layer has depth d
abbrev pub Free : List ℕ → ℕ → Type 0
Free w d = (n : ℕ) → n < 8 → (layer_of w n).on ≡ true → (layer_of w n).depth ≡ d → ⊥

held-free : (w : List ℕ) (d : ℕ) → held_at w d ≡ 0 → Free w d
unfolding held_at holds_at
held-free w d e n h o q =
    let z = refuses-not (here (layer_of w n) d) 0 0 (first-each 8 (holds_at w d) e n h) in
    false≢true (sym z.0 ∙ rw (o, eq-eqb _ d q))

free-held : (w : List ℕ) (d : ℕ) → Free w d → held_at w d ≡ 0
unfolding held_at holds_at
free-held w d f =
    first-all 8 (holds_at w d)
    (λ n h. ap (λ (t : Bool). pick t 1 0)
    (both_false (layer_of w n).on (eqb (layer_of w n).depth d) (λ o q. f n h o (eqb-true _ _ q))))

-- layer n and an enabled one below it have one depth
pub record Clash (w : List ℕ) (n : ℕ) : Type 0 where
  pub with : ℕ
  pub below : with < n
  pub on : (layer_of w n).on ≡ true
  pub also : (layer_of w with).on ≡ true
  pub same : (layer_of w n).depth ≡ (layer_of w with).depth

clash-not : (l m : Layer) → (clash_of l m ≡ 0 → ⊥) → (l.on ≡ true) × (m.on ≡ true) × (l.depth ≡ m.depth)
unfolding clash_of
clash-not l m ne = go l.on refl m.on refl (eqb l.depth m.depth) refl
  where
    go : (a : Bool) → l.on ≡ a → (b : Bool) → m.on ≡ b → (c : Bool) → eqb l.depth m.depth ≡ c
        → (l.on ≡ true) × (m.on ≡ true) × (l.depth ≡ m.depth)
    go true p true q true r = (p, q, eqb-true _ _ r)
    go true p true q false r = absurd (ne (rw (p, q, r) refl))
    go true p false q c r = absurd (ne (rw (p, q) refl))
    go false p b q c r = absurd (ne (rw p refl))

pub clash-found : (w : List ℕ) (n : ℕ) → (clash_below w n ≡ 0 → ⊥) → Clash w n
unfolding clash_below clash_at
clash-found w n ne =
    let s = first_some n (clash_at w n) ne in
    let c = clash-not (layer_of w n) (layer_of w s.0) s.2 in
    record { with = s.0; below = s.1; on = c.0; also = c.1; same = c.2 }

clash-none : (w : List ℕ) (n : ℕ) → clash_below w n ≡ 0 → (m : ℕ) → m < n → (layer_of w n).on ≡ true
    → (layer_of w m).on ≡ true → (layer_of w n).depth ≡ (layer_of w m).depth → ⊥
unfolding clash_below clash_at
clash-none w n e m h = clash-apart (layer_of w n) (layer_of w m) (first-each n (clash_at w n) e m h)

-- ---- a depth is free

-- the layers but n, counted from 0 to 6
abbrev others : ℕ → ℕ → ℕ
others n m = pick (ltb m n) m (m + 1)

-- why: the other seven layers have at most seven of the eight depths, and layer n's is one of those
pub room : (w : List ℕ) (n : ℕ) → n < 8 → Clash w n → (d : ℕ) × (d ≤ 7) × Free w d
room w n h c = go (left_over 7 (λ m. (layer_of w (others n m)).depth))
  where
    lower : (m : ℕ) → m < n → others n m ≡ m
    lower m lt = rw (lt-ltb m n lt) refl

    upper : (m : ℕ) → n < m → others n (m - 1) ≡ m
    upper m lt = rw (le-ltb (m - 1) n (omega arith)) (omega arith)

    go : (d : ℕ) × (d ≤ 7) × ((m : ℕ) → m < 7 → (layer_of w (others n m)).depth ≡ d → ⊥)
        → (d : ℕ) × (d ≤ 7) × Free w d
    go l = (
      l.0,
      l.1,
      λ m hm o q. ⊎_elim
          (λ (lt : m < n). l.2 m (omega arith) (rw (lower m lt) q))
          (λ (ge : n ≤ m). ⊎_elim
          (λ (s : m ≡ n). l.2 c.with (omega (arith, c.below))
          (rw (lower c.with c.below) (sym c.same ∙ ap (λ (k : ℕ). (layer_of w k).depth) (sym s) ∙ q)))
          (λ (ne : m ≡ n → ⊥). l.2 (m - 1) (omega arith) (rw (upper m (omega arith)) q))
          (same_or m n))
          (split m n),
    )

-- ---- a turn

-- the words w after layers below k had their turns, from w₀ on: what was held is held, those layers have a
-- depth each, and nothing but depths has changed
pub record Spread (w₀ : List ℕ) (k : ℕ) (w : List ℕ) : Type 0 where
  pub long : length w ≡ 52
  pub first : (i : ℕ) → i < 4 → get_or w i 0 ≡ get_or w₀ i 0
  pub plain : ((i : ℕ) → i < 52 → Plain w₀ i) → (i : ℕ) → i < 52 → Plain w i
  pub small : ((i : ℕ) → get_or w₀ i 0 < 2 ^ 32) → (i : ℕ) → get_or w i 0 < 2 ^ 32
  pub layer : (n : ℕ) → n < 8 → layer_of w n ≡ at_depth (layer_of w₀ n) (layer_of w n).depth
  pub held : (d : ℕ) → Free w d → Free w₀ d
  pub apart : (n m : ℕ) → m < n → n < k → (layer_of w n).on ≡ true → (layer_of w m).on ≡ true
      → (layer_of w n).depth ≡ (layer_of w m).depth → ⊥

module _ (w₀ : List ℕ) (n : ℕ) (w : List ℕ) (h : n < 8) (u : Spread w₀ n w) where
  -- "a depth is always free when one is needed": the smallest is below 8, was held by none and is by none
  pub free-found : Clash w n → (free_of w₀ w < 8) × Free w₀ (free_of w₀ w) × Free w (free_of w₀ w)
  unfolding free_of taken_at
  free-found c =
      let r = room w n h c in
      let z = zero_from-hits 8 (taken_at w₀ w) 0 r.0 (omega arith) (omega (arith, r.1))
      (or_else-none (held_at w₀ r.0) _ (free-held w₀ _ (u.held r.0 r.2)) (free-held w _ r.2)) in (
        omega (arith, z.1, r.1),
        held-free w₀ _ (or_else-left (held_at w₀ (zero_from 8 (taken_at w₀ w) 0)) _ z.0),
        held-free w _ (or_else-right (held_at w₀ (zero_from 8 (taken_at w₀ w) 0)) _ z.0),
      )

  stay : clash_below w n ≡ 0 → Spread w₀ (suc n) w
  stay e =
      record {
        long = u.long;
        first = u.first;
        plain = u.plain;
        small = u.small;
        layer = u.layer;
        held = u.held;
        apart = λ k m lt hk ok om q. ⊎_elim
            (λ (i : k ≡ n). clash-none w n e m (omega arith) (rw i at ok) om (rw i at q))
            (λ (ne : k ≡ n → ⊥). u.apart k m lt (omega arith) ok om q)
            (same_or k n);
      }

  module _ (d : ℕ) (hd : d < 8) where
    kept : Kept n w (with_depth w n d)
    kept = kept-depth w n h u.long d hd

    deep : layer_of (with_depth w n d) n ≡ at_depth (layer_of w n) d
    deep = with_depth-same w n h u.long d hd

    same-layers : (m : ℕ) → m < 8
        → layer_of (with_depth w n d) m ≡ at_depth (layer_of w₀ m) (layer_of (with_depth w n d) m).depth
    same-layers m hm = ⊎_elim
        (λ (i : m ≡ n). rw (i, deep) (ap (λ (l : Layer). at_depth l d) (u.layer n h)))
        (λ (ne : m ≡ n → ⊥). rw (kept.other m ne) (u.layer m hm))
        (same_or m n)

    give : Free w d → Clash w n → Spread w₀ (suc n) (with_depth w n d)
    give f c =
        record {
          long = kept.long ∙ u.long;
          first = λ i hi. kept.first i hi ∙ u.first i hi;
          plain = λ p. kept.plain (u.plain p);
          small = λ p. kept.small (u.small p);
          layer = same-layers;
          held = λ e g. u.held e (λ m hm o q. ⊎_elim
              (λ (i : m ≡ n). let b : c.with ≡ n → ⊥ = λ j. omega (arith, c.below) in
              g c.with (omega (arith, c.below)) (rw (kept.other c.with b) c.also)
              (rw (kept.other c.with b) (sym c.same ∙ (rw i at q))))
              (λ (ne : m ≡ n → ⊥). g m hm (rw (kept.other m ne) o) (rw (kept.other m ne) q))
              (same_or m n));
          apart = λ a m lt ha oa om q. ⊎_elim
              (λ (i : a ≡ n). let b : m ≡ n → ⊥ = λ j. omega arith in
              f m (omega arith) (rw (kept.other m b) at om)
              (sym (ap (λ (l : Layer). l.depth) (kept.other m b)) ∙ sym q
              ∙ rw i (ap (λ (l : Layer). l.depth) deep)))
              (λ (ne : a ≡ n → ⊥). let b : m ≡ n → ⊥ = λ j. omega arith in
              u.apart a m lt (omega arith) (rw (kept.other a ne) at oa) (rw (kept.other m b) at om)
              (rw (kept.other a ne, kept.other m b) at q))
              (same_or a n);
        }

  turn : Spread w₀ (suc n) (spread_at w₀ n w)
  unfolding spread_at
  turn =
      choose-keeps (Spread w₀ (suc n)) (eqb (clash_below w n) 0) w (with_depth w n (free_of w₀ w))
      (λ e. stay (eqb-true _ 0 e))
      (λ e. let c = clash-found w n (eqb-false _ 0 e) in
      let r = free-found c in give (free_of w₀ w) r.0 r.2 c)

-- ---- all turns

spread-begin : (w : List ℕ) → length w ≡ 52 → Spread w 0 w
spread-begin w long =
    record {
      long = long;
      first = λ i h. refl;
      plain = λ p. p;
      small = λ p. p;
      layer = λ n h. refl;
      held = λ d f. f;
      apart = λ n m lt h. absurd (omega arith);
    }

pub spread-upto : (w : List ℕ) → length w ≡ 52 → (k : ℕ) → k ≤ 8 → Spread w k (run 0 k (spread_at w) w)
spread-upto w long k h =
    run-hands (Spread w) k (spread_at w) w (spread-begin w long) (λ n v lt u. turn w n v (omega arith) u)

pub spread-all : (w : List ℕ) → length w ≡ 52 → Spread w 8 (spread w)
unfolding spread
spread-all w long = spread-upto w long 8 (omega arith)

-- what layer n's turn asks for
pub turn-room : (w v : List ℕ) (n : ℕ) → length w ≡ 52 → v ≡ run 0 n (spread_at w) w → n < 8
    → (clash_below v n ≡ 0 → ⊥) → free_of w v < 8
turn-room w v n long e h ne = (free-found w n v h (rw e (spread-upto w long n (omega arith))) (clash-found v n ne)).0
