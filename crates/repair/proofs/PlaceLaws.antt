-- Steps 1 to 4 and K7's, layer by layer: what each makes of a layer, and that afterwards no reserved bit is set, no
-- layer is of two kinds and each enabled layer lies on the screen. Assumes nothing.
use mathlib.Core.Path.{◌≡◌, refl, sym, ap, ◌∙◌}
use mathlib.Core.Bool.{Bool, true, false, false≢true, not}
use mathlib.Core.Logic.{inl, inr, ⊎_elim}
use mathlib.Core.List.{List}
use Prim.Native.Nat.{ℕ, suc, ◌+◌, ◌-◌, ◌*◌, ◌^◌, ◌≤◌, ◌<◌}
use native.Mathlib.Omega.{arith}
use borrow.Author.Tests.{le-ltb}
use lib.Dec.{eqb, ltb}
use lib.Bits.{bit_and, and_zero_r}
use lib.ListN.{get_or, length}
use Rattle.lists.specs.Choice.{choose, both, either}
use Rattle.lists.specs.Runs.{first_of, run}
use Rattle.lists.proofs.Bits.{clear-plain, clear-field, clear-low}
use Rattle.lists.proofs.Choice.{same_or, both_false, both-not, choose-keeps, either_left, either-right}
use Rattle.lists.proofs.First.{first-each}
use Rattle.lists.proofs.Run.{run-hands, run-still}
use Rattle.lists.proofs.Tab.{length-tab, get_d-tab, tab-below, is-tab}
use Rattle.words.specs.declared.fields.Layer.{Layer}
use Rattle.words.specs.Fields.{low_of, high_of, width_of, height_of, layer_of}
use Rattle.words.specs.Check.{reserved_bits, Placed, Plain, Accepted}
use Rattle.words.specs.Change.{with_off, with_bytes}
use Rattle.words.proofs.CheckLaws.{not-zero, above_zero}
use Rattle.words.proofs.ChangeLaws.{mask-free, Kept, kept-id, kept_then, kept_off, kept-bytes, kept_pair}
use Rattle.words.proofs.ChangeLaws.{switched_off, of_bytes, lying_at, with_off-same, with_bytes-same, fit_same}
use Rattle.words.proofs.ChangeLaws.{corner-own, size-own}
use Rattle.repair.specs.Steps.{cleared_at, cleared, is_twofold, one_kind_at, one_kind, is_empty, empty_off, empties_off}
use Rattle.repair.specs.Steps.{is_large, large_off, larges_off, place_in, size_in, fit_in, fit_at, fit, placed}
use Rattle.repair.proofs.AxisLaws.{axis-stays, axis-inside, axis-field}

-- ---- step 1

-- the layers that the words have
pub clear-layer : (w : List ℕ) (n : ℕ) → n < 8 → layer_of (cleared w) n ≡ layer_of w n
unfolding layer_of cleared cleared_at first_of
clear-layer w n h =
    rw (
      get_d-tab 52 (cleared_at w) (4 + 6 * n) (omega arith),
      get_d-tab 52 (cleared_at w) (5 + 6 * n) (omega arith),
      get_d-tab 52 (cleared_at w) (6 + 6 * n) (omega arith),
      get_d-tab 52 (cleared_at w) (7 + 6 * n) (omega arith),
      get_d-tab 52 (cleared_at w) (8 + 6 * n) (omega arith),
      get_d-tab 52 (cleared_at w) (9 + 6 * n) (omega arith),
      clear-low 1 (get_or w (4 + 6 * n) 0) _ (mask-free 4 0 1 refl n h),
      clear-field 1 1 (get_or w (4 + 6 * n) 0) _ (mask-free 4 1 1 refl n h),
      clear-field 2 1 (get_or w (4 + 6 * n) 0) _ (mask-free 4 2 1 refl n h),
      clear-field 8 3 (get_or w (4 + 6 * n) 0) _ (mask-free 4 8 3 refl n h),
      clear-field 31 1 (get_or w (5 + 6 * n) 0) _ (mask-free 5 31 1 refl n h),
      clear-low 8 (get_or w (5 + 6 * n) 0) _ (mask-free 5 0 8 refl n h),
      clear-low 12 (get_or w (6 + 6 * n) 0) _ (mask-free 6 0 12 refl n h),
      clear-field 16 12 (get_or w (6 + 6 * n) 0) _ (mask-free 6 16 12 refl n h),
      clear-low 12 (get_or w (7 + 6 * n) 0) _ (mask-free 7 0 12 refl n h),
      clear-field 16 12 (get_or w (7 + 6 * n) 0) _ (mask-free 7 16 12 refl n h),
      whole (get_or w (8 + 6 * n) 0) _ (first-each 8 (λ m. get_or reserved_bits (8 + 6 * m) 0) refl n h),
      clear-low 16 (get_or w (9 + 6 * n) 0) _ (mask-free 9 0 16 refl n h),
      clear-field 16 8 (get_or w (9 + 6 * n) 0) _ (mask-free 9 16 8 refl n h),
    )
  where
    whole : (v M : ℕ) → M ≡ 0 → v - bit_and v M ≡ v
    whole v M e = rw (e, and_zero_r v) (omega arith)

-- ---- bounds

pub fields-lt : (v : List ℕ) (n : ℕ)
    → ((layer_of v n).x < 4096) × ((layer_of v n).y < 4096) × ((layer_of v n).width < 4096) × ((layer_of v n).height < 4096)
unfolding layer_of
fields-lt v n = (omega arith, omega arith, omega arith, omega arith)

-- ---- the first four steps, layer by layer

-- what the words w have become, as v: on a screen of W by H each layer is what R says
pub record After (W H : ℕ) (R : Layer → Layer) (w v : List ℕ) : Type 0 where
  pub long : length v ≡ 52
  pub across : width_of v ≡ W
  pub down : height_of v ≡ H
  pub plain : ((i : ℕ) → i < 52 → Plain w i) → (i : ℕ) → i < 52 → Plain v i
  pub small : ((i : ℕ) → get_or w i 0 < 2 ^ 32) → (i : ℕ) → get_or v i 0 < 2 ^ 32
  pub layer : (n : ℕ) → n < 8 → layer_of v n ≡ R (layer_of w n)

pub after_then : {W H : ℕ} {R Q : Layer → Layer} {u v w : List ℕ} → After W H R u v → After W H Q v w
    → After W H (λ l. Q (R l)) u w
after_then {Q = Q} a b =
    record {
      long = b.long;
      across = b.across;
      down = b.down;
      plain = λ p. b.plain (a.plain p);
      small = λ p. b.small (a.small p);
      layer = λ n h. b.layer n h ∙ ap Q (a.layer n h);
    }

-- turns of which each makes R of one layer and keeps the rest
abbrev Turns : ℕ → ℕ → (Layer → Layer) → (ℕ → List ℕ → List ℕ) → Type 0
Turns W H R f = (n : ℕ) (v : List ℕ) → n < 8 → length v ≡ 52 → width_of v ≡ W → height_of v ≡ H
    → Kept n v (f n v) × (layer_of (f n v) n ≡ R (layer_of v n))

module _ (W H : ℕ) (R : Layer → Layer) (f : ℕ → List ℕ → List ℕ) (turn : Turns W H R f) (w : List ℕ)
    (long : length w ≡ 52) (across : width_of w ≡ W) (down : height_of w ≡ H) where
  -- the layers below k had theirs
  record Upto (k : ℕ) (v : List ℕ) : Type 0 where
    kept : length v ≡ 52
    first : get_or v 1 0 ≡ get_or w 1 0
    plain : ((i : ℕ) → i < 52 → Plain w i) → (i : ℕ) → i < 52 → Plain v i
    small : ((i : ℕ) → get_or w i 0 < 2 ^ 32) → (i : ℕ) → get_or v i 0 < 2 ^ 32
    below : (n : ℕ) → n < k → layer_of v n ≡ R (layer_of w n)
    rest : (n : ℕ) → k ≤ n → layer_of v n ≡ layer_of w n

  next : (k : ℕ) (v : List ℕ) → k < 8 → Upto k v → Upto (suc k) (f k v)
  next k v h u =
      let t = turn k v h u.kept (ap low_of u.first ∙ across) (ap high_of u.first ∙ down) in
      record {
        kept = t.0.long ∙ u.kept;
        first = t.0.first 1 (omega arith) ∙ u.first;
        plain = λ p. t.0.plain (u.plain p);
        small = λ p. t.0.small (u.small p);
        below = λ n lt. ⊎_elim
            (λ (q : n ≡ k). rw q (t.1 ∙ ap R (u.rest k (omega arith))))
            (λ (ne : n ≡ k → ⊥). t.0.other n ne ∙ u.below n (omega arith))
            (same_or n k);
        rest = λ n le. t.0.other n (λ (q : n ≡ k). omega arith) ∙ u.rest n (omega arith);
      }

  all-turns : After W H R w (run 0 8 f w)
  all-turns =
      let u : Upto 8 (run 0 8 f w) =
      run-hands Upto 8 f w
      (record {
        kept = long;
        first = refl;
        plain = λ p. p;
        small = λ p. p;
        below = λ n lt. absurd (omega arith);
        rest = λ n le. refl;
      })
      next in
      record {
        long = u.kept;
        across = ap low_of u.first ∙ across;
        down = ap high_of u.first ∙ down;
        plain = u.plain;
        small = u.small;
        layer = u.below;
      }

-- what K7's step makes of a layer, and steps 2, 3 and 4
abbrev pub of_one_kind : Layer → Layer
of_one_kind l = choose (is_twofold l) (of_bytes l) l

abbrev pub emptied : Layer → Layer
emptied l = choose (is_empty l) (switched_off l) l

abbrev pub trimmed : ℕ → ℕ → Layer → Layer
trimmed W H l = choose (is_large W H l) (switched_off l) l

abbrev pub lying_in : ℕ → ℕ → Layer → Layer
lying_in W H l =
    lying_at l (place_in W l.x l.width) (place_in H l.y l.height) (size_in W l.width) (size_in H l.height)

abbrev pub fitting : ℕ → ℕ → Layer → Layer
fitting W H l = choose l.on (lying_in W H l) l

abbrev pub brought_in : ℕ → ℕ → Layer → Layer
brought_in W H l = fitting W H (trimmed W H (emptied l))

module _ (n : ℕ) (v : List ℕ) (h : n < 8) (long : length v ≡ 52) where
  kind-turn : (t : Bool) → Kept n v (choose t (with_bytes v n) v)
      × (layer_of (choose t (with_bytes v n) v) n ≡ choose t (of_bytes (layer_of v n)) (layer_of v n))
  kind-turn true = (kept-bytes v n h long, with_bytes-same v n h long)
  kind-turn false = (kept-id n v, refl)

  off-turn : (t : Bool) → Kept n v (choose t (with_off v n) v)
      × (layer_of (choose t (with_off v n) v) n ≡ choose t (switched_off (layer_of v n)) (layer_of v n))
  off-turn true = (kept_off v n h long, with_off-same v n h long)
  off-turn false = (kept-id n v, refl)

  pub fit-turn : (W H : ℕ) (t : Bool) → Kept n v (choose t (fit_in W H (layer_of v n) n v) v)
      × (layer_of (choose t (fit_in W H (layer_of v n) n v) v) n ≡ choose t (lying_in W H (layer_of v n)) (layer_of v n))
  unfolding fit_in
  fit-turn W H true =
      let b = fields-lt v n in
      let f = axis-field W (layer_of v n).width (layer_of v n).x b.0 b.2 in
      let g = axis-field H (layer_of v n).height (layer_of v n).y b.1 b.3 in
      let k = kept_pair v n h long 6 _ _ (inl refl) f.0 g.0 in (
        kept_then k (kept_pair _ n h (k.long ∙ long) 7 _ _ (inr refl) f.1 g.1),
        fit_same v n h long _ _ _ _ f.0 g.0 f.1 g.1,
      )
  fit-turn W H false = (kept-id n v, refl)

module _ (W H : ℕ) (w : List ℕ) (long : length w ≡ 52) (across : width_of w ≡ W) (down : height_of w ≡ H) where
  kinds-after : After W H of_one_kind w (one_kind w)
  unfolding one_kind one_kind_at
  kinds-after =
      all-turns W H of_one_kind one_kind_at (λ n v h l a d. kind-turn n v h l (is_twofold (layer_of v n))) w long across down

  empties-after : After W H emptied w (empties_off w)
  unfolding empties_off empty_off
  empties-after =
      all-turns W H emptied empty_off (λ n v h l a d. off-turn n v h l (is_empty (layer_of v n))) w long across down

  larges-after : After W H (trimmed W H) w (larges_off w)
  unfolding larges_off large_off
  larges-after =
      all-turns W H (trimmed W H) large_off (λ n v h l a d. rw (a, d) (off-turn n v h l (is_large W H (layer_of v n))))
      w long across down

  fit-after : After W H (fitting W H) w (fit w)
  unfolding fit fit_at
  fit-after =
      all-turns W H (fitting W H) fit_at (λ n v h l a d. rw (a, d) (fit-turn n v h l W H (layer_of v n).on))
      w long across down

-- clear words
module _ (w : List ℕ) where
  clear-word : (i : ℕ) → i < 52 → get_or (cleared w) i 0 ≡ cleared_at w i
  unfolding cleared
  clear-word i h = get_d-tab 52 (cleared_at w) i h

  clear-long : length (cleared w) ≡ 52
  unfolding cleared
  clear-long = length-tab 52 (cleared_at w)

  clear-across : width_of (cleared w) ≡ width_of w
  unfolding cleared_at
  clear-across = ap low_of (clear-word 1 (omega arith)) ∙ clear-low 12 (get_or w 1 0) 0xf000_f000 refl

  clear-down : height_of (cleared w) ≡ height_of w
  unfolding cleared_at
  clear-down = ap high_of (clear-word 1 (omega arith)) ∙ clear-field 16 12 (get_or w 1 0) 0xf000_f000 refl

  clear-plains : (i : ℕ) → i < 52 → Plain (cleared w) i
  unfolding cleared_at
  clear-plains i h = rw (clear-word i h) (clear-plain (get_or w i 0) (get_or reserved_bits i 0))

  clear-small : ((i : ℕ) → get_or w i 0 < 2 ^ 32) → (i : ℕ) → get_or (cleared w) i 0 < 2 ^ 32
  unfolding cleared cleared_at
  clear-small s = tab-below 52 (2 ^ 32) (cleared_at w) (omega arith) (λ i. omega (arith, s i))

  -- all of them
  brought : After (width_of w) (height_of w) (λ l. brought_in (width_of w) (height_of w) (of_one_kind l)) (cleared w) (placed w)
  unfolding placed
  brought =
      let W = width_of w in
      let H = height_of w in
      let k = kinds-after W H (cleared w) clear-long clear-across clear-down in
      let a = empties-after W H (one_kind (cleared w)) k.long k.across k.down in
      let b = larges-after W H (empties_off (one_kind (cleared w))) a.long a.across a.down in
      let c = fit-after W H (larges_off (empties_off (one_kind (cleared w)))) b.long b.across b.down in
      after_then (after_then (after_then k a) b) c

  -- no reserved bit is set, and each layer, of one kind, is brought in
  pub placed-long : length (placed w) ≡ 52
  placed-long = brought.long

  pub placed-across : width_of (placed w) ≡ width_of w
  placed-across = brought.across

  pub placed-down : height_of (placed w) ≡ height_of w
  placed-down = brought.down

  pub placed-plain : (i : ℕ) → i < 52 → Plain (placed w) i
  placed-plain = brought.plain clear-plains

  pub placed-small : ((i : ℕ) → get_or w i 0 < 2 ^ 32) → (i : ℕ) → get_or (placed w) i 0 < 2 ^ 32
  placed-small s = brought.small (clear-small s)

  pub placed-layer : (n : ℕ) → n < 8
      → layer_of (placed w) n ≡ brought_in (width_of w) (height_of w) (of_one_kind (layer_of w n))
  placed-layer n h =
      brought.layer n h ∙ ap (λ (l : Layer). brought_in (width_of w) (height_of w) (of_one_kind l)) (clear-layer w n h)

-- ---- a layer of one kind

-- but for bit 2 it is what it was
pub kind-same : (l : Layer) → of_bytes (of_one_kind l) ≡ of_bytes l
kind-same l = choose-keeps (λ (k : Layer). of_bytes k ≡ of_bytes l) (is_twofold l) (of_bytes l) l (λ _. refl) (λ _. refl)

-- bit 2 is set where it was and bit 1 is not
pub kind-floats : (l : Layer) → (of_one_kind l).floats ≡ both (not l.graphics) l.floats
unfolding is_twofold
kind-floats l = go l.graphics l.floats refl
  where
    go : (g f : Bool) → l.floats ≡ f → (choose (both g f) (of_bytes l) l).floats ≡ both (not g) f
    go true true e = refl
    go true false e = e
    go false f e = e

-- steps 2 to 4 leave bits 1 and 2
pub brought-kind : (W H : ℕ) (l : Layer)
    → ((brought_in W H l).graphics ≡ l.graphics) × ((brought_in W H l).floats ≡ l.floats)
brought-kind W H l =
    fits (trimmed W H (emptied l)).on (trimmed W H (emptied l)) (offs (is_large W H (emptied l)) (emptied l)
    (offs (is_empty l) l (refl, refl)))
  where
    Same : Layer → Type 0
    Same k = (k.graphics ≡ l.graphics) × (k.floats ≡ l.floats)

    offs : (t : Bool) (k : Layer) → Same k → Same (choose t (switched_off k) k)
    offs t k s = choose-keeps Same t (switched_off k) k (λ _. s) (λ _. s)

    fits : (t : Bool) (k : Layer) → Same k → Same (choose t (lying_in W H k) k)
    fits t k s = choose-keeps Same t (lying_in W H k) k (λ _. s) (λ _. s)

-- ---- a layer brought in lies on the screen

-- one that a test has not switched off is what it was
off-not : (t : Bool) (l : Layer) → (choose t (switched_off l) l).on ≡ true
    → (t ≡ false) × (choose t (switched_off l) l ≡ l)
off-not true l o = absurd (false≢true o)
off-not false l o = (refl, refl)

-- an enabled layer after step 4 was enabled
fit_on : (t : Bool) (l k : Layer) → l.on ≡ t → k.on ≡ t → (choose t k l).on ≡ true → t ≡ true
fit_on true l k p q o = refl
fit_on false l k p q o = sym p ∙ o

module _ (W H : ℕ) (l : Layer) (o : (brought_in W H l).on ≡ true) where
  abbrev small : Layer
  small = trimmed W H (emptied l)

  small-on : small.on ≡ true
  small-on = fit_on small.on small (lying_in W H small) refl refl o

  trim-not : (is_large W H (emptied l) ≡ false) × (small ≡ emptied l)
  trim-not = off-not (is_large W H (emptied l)) (emptied l) small-on

  empty-not : (is_empty l ≡ false) × (emptied l ≡ l)
  empty-not = off-not (is_empty l) l (sym (ap (λ (k : Layer). k.on) trim-not.1) ∙ small-on)

  small_is : small ≡ l
  small_is = trim-not.1 ∙ empty-not.1

  pub brought-on : l.on ≡ true
  brought-on = sym (ap (λ (k : Layer). k.on) small_is) ∙ small-on

  brought-sized : (0 < l.width) × (0 < l.height)
  unfolding is_empty
  brought-sized =
      let t = both-not l.on _ empty-not.0 brought-on in
      (not-zero _ (either_left (eqb l.width 0) _ t), not-zero _ (either-right (eqb l.width 0) _ t))

  pub brought-lies : brought_in W H l ≡ lying_in W H l
  brought-lies = rw (small_is, brought-on)

  pub brought-placed : 0 < W → 0 < H → Placed W H (brought_in W H l)
  brought-placed wide tall =
      let p = axis-inside W l.width l.x wide brought-sized.0 in
      let q = axis-inside H l.height l.y tall brought-sized.1 in
      rw brought-lies (record { wide = p.0; tall = q.0; right = p.1; below = q.1 })

-- ---- words that pass stay as they are

module _ (w : List ℕ) (long : length w ≡ 52) (acc : Accepted w) where
  -- a test that asks first whether the layer is enabled
  misses : (o b : Bool) → (o ≡ true → b ≡ false) → both o b ≡ false
  misses true b f = f refl
  misses false b f = refl

  neither : (a b : Bool) → a ≡ false → b ≡ false → either a b ≡ false
  neither a b p q = rw p q

  unchosen : (t : Bool) (v : List ℕ) → t ≡ false → choose t v w ≡ w
  unchosen t v e = rw e refl

  clear-id : cleared w ≡ w
  unfolding cleared cleared_at
  clear-id = sym (is-tab w 52 (cleared_at w) long (λ i h. rw (acc.plain i h) (omega arith)))

  kind-stays : (n : ℕ) → n < 8 → one_kind_at n w ≡ w
  unfolding one_kind_at is_twofold
  kind-stays n h =
      unchosen _ _
      (both_false (layer_of w n).graphics _ (λ g f. false≢true (sym (acc.kinds n h f) ∙ g)))

  empty-stays : (n : ℕ) → n < 8 → empty_off n w ≡ w
  unfolding empty_off is_empty
  empty-stays n h =
      unchosen _ _
      (misses (layer_of w n).on _ (λ o. let p = acc.placed n h o in
      neither (eqb (layer_of w n).width 0) _ (above_zero _ p.wide) (above_zero _ p.tall)))

  large-stays : (n : ℕ) → n < 8 → large_off n w ≡ w
  unfolding large_off is_large
  large-stays n h =
      unchosen _ _
      (misses (layer_of w n).on _ (λ o. let p = acc.placed n h o in
      misses (not (layer_of w n).graphics) _ (λ _.
      neither (ltb (width_of w) (layer_of w n).width) _ (fits _ _ _ p.right) (fits _ _ _ p.below))))
    where
      fits : (S x a : ℕ) → x + a ≤ S → ltb S a ≡ false
      fits S x a h = le-ltb S a (omega arith)

  fit_stays : (n : ℕ) → n < 8 → fit_at n w ≡ w
  unfolding fit_at fit_in
  fit_stays n h =
      choose-keeps (λ (v : List ℕ). v ≡ w) (layer_of w n).on _ w
      (λ o. let p = acc.placed n h o in
      let a = axis-stays (width_of w) (layer_of w n).width (layer_of w n).x p.right in
      let b = axis-stays (height_of w) (layer_of w n).height (layer_of w n).y p.below in
      rw (a.0, b.0, a.1, b.1, corner-own w n, size-own w n))
      (λ _. refl)

  pub placed-id : placed w ≡ w
  unfolding placed one_kind empties_off larges_off fit
  placed-id =
      rw (
        clear-id,
        run-still 8 one_kind_at w kind-stays,
        run-still 8 empty_off w empty-stays,
        run-still 8 large_off w large-stays,
        run-still 8 fit_at w fit_stays,
      )
