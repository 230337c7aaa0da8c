-- Steps that may trade places: 1 and 2, 2 and 3, 4 and 5; of K7's step `KindLaws` has it. Where the order matters,
-- `Worked` has images. Assumes nothing.
use mathlib.Core.Path.{◌≡◌, refl, sym, ap, ap₂, ◌∙◌}
use mathlib.Core.Bool.{Bool, true, false}
use mathlib.Core.Logic.{⊎_elim}
use mathlib.Core.List.{List}
use Prim.Native.Nat.{ℕ, ◌+◌, ◌-◌, ◌*◌, ◌/◌, ◌%◌, ◌<◌, min}
use native.Mathlib.Omega.{arith}
use lib.Bits.{bit_and, and_step}
use lib.Dec.{eqb}
use lib.ListN.{length, get_or, set, length-set}
use lib.Seq.{get_or-set_same, get_or-set_other, set-set, set_comm}
use Rattle.lists.specs.Choice.{choose, or_else}
use Rattle.lists.specs.Runs.{run}
use Rattle.lists.specs.Tab.{tab}
use Rattle.lists.proofs.Choice.{same_or, choose-keeps}
use Rattle.lists.proofs.Run.{run-cong, run-hands, trade-step, trade-turns}
use Rattle.lists.proofs.First.{first_cong}
use Rattle.lists.proofs.Zero.{zero_from-cong}
use Rattle.lists.proofs.Tab.{length-tab, get_d-tab, is-tab}
use Rattle.words.specs.declared.fields.Layer.{Layer}
use Rattle.words.specs.Fields.{low_of, high_of, width_of, height_of, layer_of}
use Rattle.words.specs.Check.{reserved_bits, clash_of, clash_at, clash_below}
use Rattle.words.specs.Change.{off_word, depth_word, pair_word, with_off, with_depth, with_pair}
use Rattle.words.proofs.ChangeLaws.{Kept, kept_off, on-free, of_bytes, at_depth, with_off-same, with_depth-alike}
use Rattle.repair.specs.Steps.{cleared_at, cleared, is_empty, empty_off, empties_off, is_large, large_off, larges_off}
use Rattle.repair.specs.Steps.{fit_in, fit_at, fit, holds_at, held_at, taken_at, free_of, spread_at, spread}
use Rattle.repair.proofs.PlaceLaws.{clear-layer, lying_in, fit-turn}

-- words of the right number
abbrev pub Long : List ℕ → Type 0
Long w = length w ≡ 52

-- ---- layers' first words changed

abbrev pub first_by : (ℕ → ℕ) → ℕ → List ℕ → List ℕ
first_by f n w = set w (4 + 6 * n) (f (get_or w (4 + 6 * n) 0))

-- two changes trade places where they do so of one word
pub first-trade : (f g : ℕ → ℕ) → ((x : ℕ) → f (g x) ≡ g (f x)) → (n m : ℕ) (w : List ℕ) → n < 8 → Long w
    → first_by f n (first_by g m w) ≡ first_by g m (first_by f n w)
first-trade f g e n m w h long = ⊎_elim
    (λ (q : n ≡ m). rw (← q) (one f g ∙ ap (set w (4 + 6 * n)) (e (get_or w (4 + 6 * n) 0)) ∙ sym (one g f)))
    (λ (ne : n ≡ m → ⊥). rw (
      get_or-set_other w (4 + 6 * m) (4 + 6 * n) (g (get_or w (4 + 6 * m) 0)) 0 (λ q. ne (omega arith)),
      get_or-set_other w (4 + 6 * n) (4 + 6 * m) (f (get_or w (4 + 6 * n) 0)) 0 (λ q. ne (omega arith)),
    )
    (set_comm w (4 + 6 * m) (4 + 6 * n) _ _ (λ q. ne (omega arith))))
    (same_or n m)
  where
    one : (f g : ℕ → ℕ) → first_by f n (first_by g n w) ≡ set w (4 + 6 * n) (f (g (get_or w (4 + 6 * n) 0)))
    one f g =
        rw (get_or-set_same w (4 + 6 * n) (g (get_or w (4 + 6 * n) 0)) 0 (omega arith)) (set-set w (4 + 6 * n) _ _)

-- ---- layers switched off by a test

-- by what the test says of word 1 and the layer
abbrev pub off_by : (ℕ → Layer → Bool) → ℕ → List ℕ → List ℕ
off_by t n w = choose (t (get_or w 1 0) (layer_of w n)) (with_off w n) w

module _ (t : ℕ → Layer → Bool) (n : ℕ) (w : List ℕ) where
  yes : t (get_or w 1 0) (layer_of w n) ≡ true → off_by t n w ≡ with_off w n
  yes e = rw e refl

  no : t (get_or w 1 0) (layer_of w n) ≡ false → off_by t n w ≡ w
  no e = rw e refl

  module _ (h : n < 8) (long : Long w) where
    pub long-off : Long (off_by t n w)
    long-off =
        choose-keeps Long (t (get_or w 1 0) (layer_of w n)) (with_off w n) w
        (λ _. (kept_off w n h long).long ∙ long) (λ _. long)

    -- a layer that is off is passed over
    passed : ((s : ℕ) (l : Layer) → l.on ≡ false → t s l ≡ false) → off_by t n (with_off w n) ≡ with_off w n
    passed e =
        let off : (layer_of (with_off w n) n).on ≡ false = ap (λ (l : Layer). l.on) (with_off-same w n h long) in
        rw (e (get_or (with_off w n) 1 0) (layer_of (with_off w n) n) off) refl

    -- another layer is seen as before
    beside : (u : ℕ → Layer → Bool) (m : ℕ) {b : Bool} → (m ≡ n → ⊥) → u (get_or w 1 0) (layer_of w m) ≡ b
        → u (get_or (with_off w n) 1 0) (layer_of (with_off w n) m) ≡ b
    beside u m ne e = let k = kept_off w n h long in ap₂ u (k.first 1 (omega arith)) (k.other m ne) ∙ e

off-trade : (n m : ℕ) (w : List ℕ) → n < 8 → Long w → with_off (with_off w m) n ≡ with_off (with_off w n) m
unfolding with_off
off-trade = first-trade off_word off_word (λ x. refl)

module _ (t u : ℕ → Layer → Bool) (t-on : (s : ℕ) (l : Layer) → l.on ≡ false → t s l ≡ false)
    (u-on : (s : ℕ) (l : Layer) → l.on ≡ false → u s l ≡ false) where
  same-trade : (n : ℕ) (w : List ℕ) → n < 8 → Long w → off_by t n (off_by u n w) ≡ off_by u n (off_by t n w)
  same-trade n w h long = go (t (get_or w 1 0) (layer_of w n)) refl (u (get_or w 1 0) (layer_of w n)) refl
    where
      go : (a : Bool) → t (get_or w 1 0) (layer_of w n) ≡ a → (b : Bool) → u (get_or w 1 0) (layer_of w n) ≡ b
          → off_by t n (off_by u n w) ≡ off_by u n (off_by t n w)
      go true p true q =
          ap (off_by t n) (yes u n w q) ∙ passed t n w h long t-on
          ∙ sym (ap (off_by u n) (yes t n w p) ∙ passed u n w h long u-on)
      go true p false q =
          ap (off_by t n) (no u n w q) ∙ yes t n w p ∙ sym (ap (off_by u n) (yes t n w p) ∙ passed u n w h long u-on)
      go false p true q =
          ap (off_by t n) (yes u n w q) ∙ passed t n w h long t-on ∙ sym (ap (off_by u n) (no t n w p) ∙ yes u n w q)
      go false p false q = ap (off_by t n) (no u n w q) ∙ no t n w p ∙ sym (ap (off_by u n) (no t n w p) ∙ no u n w q)

  other-trade : (n m : ℕ) (w : List ℕ) → n < 8 → m < 8 → Long w → (n ≡ m → ⊥)
      → off_by t n (off_by u m w) ≡ off_by u m (off_by t n w)
  other-trade n m w h k long ne = go (t (get_or w 1 0) (layer_of w n)) refl (u (get_or w 1 0) (layer_of w m)) refl
    where
      en : m ≡ n → ⊥
      en e = ne (sym e)

      go : (a : Bool) → t (get_or w 1 0) (layer_of w n) ≡ a → (b : Bool) → u (get_or w 1 0) (layer_of w m) ≡ b
          → off_by t n (off_by u m w) ≡ off_by u m (off_by t n w)
      go true p true q =
          ap (off_by t n) (yes u m w q) ∙ yes t n (with_off w m) (beside u m w k long t n ne p) ∙ off-trade n m w h long
          ∙ sym (ap (off_by u m) (yes t n w p) ∙ yes u m (with_off w n) (beside t n w h long u m en q))
      go true p false q =
          ap (off_by t n) (no u m w q) ∙ yes t n w p
          ∙ sym (ap (off_by u m) (yes t n w p) ∙ no u m (with_off w n) (beside t n w h long u m en q))
      go false p true q =
          ap (off_by t n) (yes u m w q) ∙ no t n (with_off w m) (beside u m w k long t n ne p)
          ∙ sym (ap (off_by u m) (no t n w p) ∙ yes u m w q)
      go false p false q = ap (off_by t n) (no u m w q) ∙ no t n w p ∙ sym (ap (off_by u m) (no t n w p) ∙ no u m w q)

  offs-trade : (w : List ℕ) → Long w → run 0 8 (off_by t) (run 0 8 (off_by u) w) ≡ run 0 8 (off_by u) (run 0 8 (off_by t) w)
  offs-trade =
      trade-turns Long 8 (off_by t) (off_by u) (long-off t) (long-off u)
      (λ n m v h k l. ⊎_elim
      (λ (e : n ≡ m). rw e (same-trade m v k l))
      (λ (ne : n ≡ m → ⊥). other-trade n m v h k l ne)
      (same_or n m))

pub two-three : (w : List ℕ) → Long w → larges_off (empties_off w) ≡ empties_off (larges_off w)
unfolding larges_off large_off empties_off empty_off is_empty is_large
two-three =
    offs-trade (λ s l. is_large (low_of s) (high_of s) l) (λ s l. is_empty l) (λ s l e. rw e refl) (λ s l e. rw e refl)

-- ---- 1 and 2

-- a word that is cleared and switched off, in either order
clear-off : (v M : ℕ) → M / 1 % 2 ≡ 0 → off_word v - bit_and (off_word v) M ≡ off_word (v - bit_and v M)
clear-off v M m =
    let q : off_word v / 2 ≡ v / 2 = omega arith in
    let r : off_word v % 2 ≡ 0 = omega arith in
    go (bit_and v M) (bit_and (off_word v) M) (bit_and (v / 2) (M / 2)) (and_step v M)
    (and_step (off_word v) M ∙ rw (q, r) refl)
  where
    go : (r s q : ℕ) → r ≡ q * 2 + min (v % 2) (M % 2) → s ≡ q * 2 + min 0 (M % 2) → v / 2 * 2 - s ≡ (v - r) / 2 * 2
    go r s q e f = omega arith

module _ (n : ℕ) (v : List ℕ) (h : n < 8) (long : Long v) where
  -- a first word that is cleared and changed, in either order
  pub first-cleared : (f : ℕ → ℕ)
      → ((x : ℕ) → f x - bit_and (f x) (get_or reserved_bits (4 + 6 * n) 0)
      ≡ f (x - bit_and x (get_or reserved_bits (4 + 6 * n) 0)))
      → cleared (first_by f n v) ≡ first_by f n (cleared v)
  unfolding cleared cleared_at
  first-cleared f t =
      let k : ℕ = 4 + 6 * n in
      let c : List ℕ = tab 52 (cleared_at v) in
      let w : List ℕ = set v k (f (get_or v k 0)) in
      sym (is-tab (set c k (f (get_or c k 0))) 52 (cleared_at w) (length-set c k _ ∙ length-tab 52 (cleared_at v))
      (λ i b. ⊎_elim
      (λ (e : i ≡ k). rw (
        e,
        get_or-set_same c k (f (get_or c k 0)) 0 (omega (arith, length-tab 52 (cleared_at v))),
        get_or-set_same v k (f (get_or v k 0)) 0 (omega arith),
        get_d-tab 52 (cleared_at v) k (omega arith),
      )
      (sym (t (get_or v k 0))))
      (λ (ne : i ≡ k → ⊥). rw (
        get_or-set_other c k i (f (get_or c k 0)) 0 ne,
        get_d-tab 52 (cleared_at v) i b,
        get_or-set_other v k i (f (get_or v k 0)) 0 ne,
      ))
      (same_or i k)))

  off-cleared : cleared (with_off v n) ≡ with_off (cleared v) n
  unfolding with_off
  off-cleared = first-cleared off_word (λ x. clear-off x _ (on-free n h))

  empty-cleared : cleared (empty_off n v) ≡ empty_off n (cleared v)
  unfolding empty_off
  empty-cleared = rw (clear-layer v n h) (go (is_empty (layer_of v n)))
    where
      go : (t : Bool) → cleared (choose t (with_off v n) v) ≡ choose t (with_off (cleared v) n) (cleared v)
      go true = off-cleared
      go false = refl

  empty-long : Long (empty_off n v)
  unfolding empty_off
  empty-long = long-off (λ s l. is_empty l) n v h long

pub one-two : (w : List ℕ) → Long w → cleared (empties_off w) ≡ empties_off (cleared w)
unfolding empties_off
one-two = trade-step Long 8 empty_off (λ n v h l. empty-long n v h l) cleared (λ n v h l. empty-cleared n v h l)

-- ---- 4 and 5

-- words whose layers have the same bit 0 and the same depths
pub record Alike (v w : List ℕ) : Type 0 where
  pub on : (n : ℕ) → n < 8 → (layer_of v n).on ≡ (layer_of w n).on
  pub depth : (n : ℕ) → n < 8 → (layer_of v n).depth ≡ (layer_of w n).depth

-- are the same to step 5
module _ (v w : List ℕ) (a : Alike v w) where
  clash-alike : (n : ℕ) → n < 8 → clash_below v n ≡ clash_below w n
  unfolding clash_below clash_at clash_of
  clash-alike n h =
      first_cong n (clash_at v n) (clash_at w n)
      (λ m lt. let b : m < 8 = omega arith in rw (a.on n h, a.depth n h, a.on m b, a.depth m b))

  held-alike : (d : ℕ) → held_at v d ≡ held_at w d
  unfolding held_at holds_at
  held-alike d = first_cong 8 (holds_at v d) (holds_at w d) (λ n h. rw (a.on n h, a.depth n h))

free-alike : (u v w x : List ℕ) → Alike u v → Alike w x → free_of u w ≡ free_of v x
unfolding free_of taken_at
free-alike u v w x a b =
    zero_from-cong 8 (taken_at u w) (taken_at v x) 0 (λ d. ap₂ or_else (held-alike u v a d) (held-alike w x b d))

same_alike : (v : List ℕ) → Alike v v
same_alike v = record { on = λ k h. refl; depth = λ k h. refl }

alike_then : {u v w : List ℕ} → Alike u v → Alike v w → Alike u w
alike_then a b = record { on = λ n h. a.on n h ∙ b.on n h; depth = λ n h. a.depth n h ∙ b.depth n h }

-- a step that leaves bit 0 and the depths, and may trade places with a depth given, may do so with a turn
spread-trade : (F : List ℕ → List ℕ) (w₀ : List ℕ) (n : ℕ) (v : List ℕ) → n < 8 → Alike (F v) v
    → ((d : ℕ) → F (with_depth v n d) ≡ with_depth (F v) n d) → F (spread_at w₀ n v) ≡ spread_at w₀ n (F v)
unfolding spread_at
spread-trade F w₀ n v h a deep =
    rw (clash-alike (F v) v a n h, free-alike w₀ w₀ (F v) v (same_alike w₀) a) (go (eqb (clash_below v n) 0))
  where
    go : (t : Bool)
        → F (choose t v (with_depth v n (free_of w₀ v))) ≡ choose t (F v) (with_depth (F v) n (free_of w₀ v))
    go true = refl
    go false = deep (free_of w₀ v)

spread-long : (w₀ : List ℕ) (n : ℕ) (v : List ℕ) → n < 8 → Long v → Long (spread_at w₀ n v)
unfolding spread_at with_depth
spread-long w₀ n v h long =
    choose-keeps Long (eqb (clash_below v n) 0) v _ (λ _. long) (λ _. length-set v (4 + 6 * n) _ ∙ long)

-- and turns of such steps with step 5
pub spread-turns : (f : ℕ → List ℕ → List ℕ)
    → ((m : ℕ) (v : List ℕ) → m < 8 → Long v → Long (f m v) × Alike (f m v) v
    × ((n : ℕ) → n < 8 → (d : ℕ) → f m (with_depth v n d) ≡ with_depth (f m v) n d))
    → (w : List ℕ) → Long w → spread (run 0 8 f w) ≡ run 0 8 f (spread w)
unfolding spread spread_at
spread-turns f turn w long =
    run-cong 0 8 (spread_at (run 0 8 f w)) (spread_at w) (run 0 8 f w)
    (λ n v b. ap (λ (d : ℕ). choose (eqb (clash_below v n) 0) v (with_depth v n d))
    (free-alike (run 0 8 f w) w v v whole (same_alike v)))
    ∙ sym (trade-turns Long 8 f (spread_at w) (λ m v h l. (turn m v h l).0) (spread-long w)
    (λ m n v hm hn l. spread-trade (f m) w n v hn (turn m v hm l).1 ((turn m v hm l).2 n hn)) w long)
  where
    whole : Alike (run 0 8 f w) w
    whole =
        (run-hands (λ n u. Long u × Alike u w) 8 f w (long, same_alike w)
        (λ m v h u. ((turn m v h u.0).0, alike_then (turn m v h u.0).1 u.1))).1

-- a first word and a corner or a size, in either order
pair-trade : (j : ℕ) (f : ℕ → ℕ) (v : List ℕ) (n m x y : ℕ) → (4 + 6 * n ≡ j + 6 * m → ⊥)
    → with_pair j (first_by f n v) m x y ≡ first_by f n (with_pair j v m x y)
unfolding with_pair
pair-trade j f v n m x y ne =
    rw (
      get_or-set_other v (4 + 6 * n) (j + 6 * m) (f (get_or v (4 + 6 * n) 0)) 0 (λ q. ne (sym q)),
      get_or-set_other v (j + 6 * m) (4 + 6 * n) (pair_word (get_or v (j + 6 * m) 0) x y) 0 ne,
    )
    (set_comm v (4 + 6 * n) (j + 6 * m) _ _ ne)

-- a layer as step 4 sees it
abbrev seen : Layer → Layer
seen l = at_depth (of_bytes l) 0

module _ (m : ℕ) (v : List ℕ) (hm : m < 8) (long : Long v) where
  -- layer m put on the screen: what stays
  turned : (t : Bool) → Kept m v (choose t (fit_in (width_of v) (height_of v) (layer_of v m) m v) v)
      × (layer_of (choose t (fit_in (width_of v) (height_of v) (layer_of v m) m v) v) m
      ≡ choose t (lying_in (width_of v) (height_of v) (layer_of v m)) (layer_of v m))
  turned = fit-turn m v hm long (width_of v) (height_of v)

  pub fit-long : Long (fit_at m v)
  unfolding fit_at
  fit-long = (turned (layer_of v m).on).0.long ∙ long

  -- what is so of the layer and of it lying elsewhere, is so of layers afterwards
  pub fit-layers : (P : Layer → Layer → Type 0) → ((l : Layer) → P l l)
      → P (lying_in (width_of v) (height_of v) (layer_of v m)) (layer_of v m) → (k : ℕ) → P (layer_of (fit_at m v) k) (layer_of v k)
  unfolding fit_at
  fit-layers P same lying k =
      let t = turned (layer_of v m).on in
      ⊎_elim
      (λ (e : k ≡ m). rw (e, t.1) (choose-keeps (λ (l : Layer). P l (layer_of v m)) (layer_of v m).on _ _
      (λ _. lying) (λ _. same (layer_of v m))))
      (λ (ne : k ≡ m → ⊥). rw (t.0.other k ne) (same (layer_of v k)))
      (same_or k m)

  fit-alike : Alike (fit_at m v) v
  fit-alike =
      record {
        on = λ k h. fit-layers (λ l o. l.on ≡ o.on) (λ l. refl) refl k;
        depth = λ k h. fit-layers (λ l o. l.depth ≡ o.depth) (λ l. refl) refl k;
      }

  module _ (n : ℕ) (hn : n < 8) where
    pub fit-first : (f : ℕ → ℕ) → seen (layer_of (first_by f n v) m) ≡ seen (layer_of v m)
        → fit_at m (first_by f n v) ≡ first_by f n (fit_at m v)
    unfolding fit_at fit_in
    fit-first f e =
        let first : get_or (first_by f n v) 1 0 ≡ get_or v 1 0 =
        get_or-set_other v (4 + 6 * n) 1 (f (get_or v (4 + 6 * n) 0)) 0 (λ q. omega arith) in
        rw (
          ap low_of first,
          ap high_of first,
          ap (λ (l : Layer). l.on) e,
          ap (λ (l : Layer). l.x) e,
          ap (λ (l : Layer). l.y) e,
          ap (λ (l : Layer). l.width) e,
          ap (λ (l : Layer). l.height) e,
          pair-trade 6 f v n m _ _ (λ q. omega arith),
          pair-trade 7 f _ n m _ _ (λ q. omega arith),
        )
        (go (layer_of v m).on _ v)
      where
        go : (t : Bool) (a b : List ℕ) → choose t (first_by f n a) (first_by f n b) ≡ first_by f n (choose t a b)
        go true a b = refl
        go false a b = refl

    fit-deep : (d : ℕ) → fit_at m (with_depth v n d) ≡ with_depth (fit_at m v) n d
    unfolding with_depth
    fit-deep d = fit-first (λ x. depth_word x d) (ap of_bytes (with_depth-alike v n hn long d m))

pub four-five : (w : List ℕ) → Long w → spread (fit w) ≡ fit (spread w)
unfolding fit
four-five = spread-turns fit_at (λ m v h l. (fit-long m v h l, fit-alike m v h l, fit-deep m v h l))
