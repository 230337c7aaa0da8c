-- 01 "Answers by number", 7 to 11: the check gives a number exactly in its case, with none of the
-- earlier ones. Assumes nothing.
use mathlib.Core.Path.{◌≡◌, refl, sym}
use mathlib.Core.Bool.{Bool, true, false, not, false≢true}
use mathlib.Core.Logic.{◌↔◌}
use mathlib.Core.List.{List}
use Prim.Native.Nat.{ℕ, ◌+◌, ◌<◌}
use lib.Dec.{eqb, ltb}
use Rattle.lists.specs.Choice.{pick, both, either, or_else}
use Rattle.lists.specs.Runs.{first_of}
use Rattle.words.specs.declared.fields.Layer.{Layer}
use Rattle.words.specs.Fields.{width_of, height_of, layer_of}
use Rattle.words.specs.Check.{reserved_at, kind_of, kind_at, screen_of, place_of, place_at, clash_of, clash_at, clash_below}
use Rattle.words.specs.Check.{check_of}
use Rattle.words.proofs.CheckLaws.{check-accepted, check-let, accepted-check}
use Rattle.laws.specs.Rows.{ReservedBit, EmptyScreen, Enabled, EmptyLayer, OffScreen, Passes, SameDepth, Case8}
use Rattle.laws.specs.Rows.{BadKind, Case7, Case9, Case10, Case11, Passing}
use Rattle.laws.proofs.Refusals.{Says, says-itself, eqb-says, ltb-says, both-says, either-says, Tells, refuses}
use Rattle.laws.proofs.Refusals.{refuses-but, tells_as, Misses, other, misses-or, or-first, or_later, given-when}
use Rattle.laws.proofs.Refusals.{passed-when, own, past, tells-or, or-or, tells_first}
use Rattle.laws.proofs.Refusals.{misses-first, first-passed, first-given}

-- ---- the tests

-- a layer's two refusals one after the other, and the others' tests joined
place_is : (o e f g h : Bool)
    → pick o (pick e 9 (pick f 9 (pick g 10 (pick h 10 0)))) 0
    ≡ or_else (pick (both o (either e f)) 9 0) (pick (both o (either g h)) 10 0)
place_is true true f g h = refl
place_is true false true g h = refl
place_is true false false true h = refl
place_is true false false false true = refl
place_is true false false false false = refl
place_is false e f g h = refl

screen-is : (s t : Bool) → pick s 8 (pick t 8 0) ≡ pick (either s t) 8 0
screen-is true t = refl
screen-is false t = refl

clash-is : (s t e : Bool) → pick s (pick t (pick e 11 0) 0) 0 ≡ pick (both s (both t e)) 11 0
clash-is true true e = refl
clash-is true false e = refl
clash-is false t e = refl

module _ (W H : ℕ) (l : Layer) where
  empty : Bool
  empty = both l.on (either (eqb l.width 0) (eqb l.height 0))

  off : Bool
  off = both l.on (either (ltb W (l.x + l.width)) (ltb H (l.y + l.height)))

  place_of-is : place_of W H l ≡ or_else (pick empty 9 0) (pick off 10 0)
  unfolding place_of empty off
  place_of-is =
      place_is l.on (eqb l.width 0) (eqb l.height 0) (ltb W (l.x + l.width)) (ltb H (l.y + l.height))

module _ (w : List ℕ) where
  tells-7 : Tells (first_of 52 (reserved_at w)) 7 (ReservedBit w)
  unfolding reserved_at
  tells-7 = tells_first 52 7 (reserved_at w) refl (λ i. refuses-but _ 7 (eqb-says _ 0))

  pub tells-8 : Tells (screen_of w) 8 (EmptyScreen w)
  unfolding screen_of
  tells-8 =
      rw (screen-is (eqb (width_of w) 0) (eqb (height_of w) 0))
      (refuses _ 8 (either-says _ _ (eqb-says (width_of w) 0) (eqb-says (height_of w) 0)))

  -- layers n and m, both enabled and of one depth
  abbrev OneDepth : ℕ → ℕ → Type 0
  OneDepth n m = Enabled w n × (Enabled w m × ((layer_of w n).depth ≡ (layer_of w m).depth))

  clash-at : (n m : ℕ) → Tells (clash_at w n m) 11 (OneDepth n m)
  unfolding clash_at clash_of
  clash-at n m =
      rw (clash-is (layer_of w n).on (layer_of w m).on (eqb (layer_of w n).depth (layer_of w m).depth))
      (refuses _ 11 (both-says _ _ (says-itself _) (both-says _ _ (says-itself _) (eqb-says _ _))))

  clash-below : (n : ℕ) → Tells (clash_below w n) 11 ((m : ℕ) × (m < n) × OneDepth n m)
  unfolding clash_below
  clash-below n = tells_first n 11 (clash_at w n) refl (clash-at n)

  tells-11 : Tells (first_of 8 (clash_below w)) 11 (SameDepth w)
  tells-11 = tells_as (
    λ p. (p.0, p.2.0, p.2.1, p.1, p.2.2.0, p.2.2.1.0, p.2.2.1.1),
    λ q. (q.0, q.3, (q.1, q.2, (q.4, (q.5, q.6)))),
  ) (tells_first {P = λ n. (m : ℕ) × (m < n) × OneDepth n m} 8 11 (clash_below w) refl clash-below)

  module _ (n : ℕ) where
    tells-9 : Tells (pick (empty (width_of w) (height_of w) (layer_of w n)) 9 0) 9 (EmptyLayer w n)
    unfolding empty
    tells-9 = refuses _ 9 (both-says _ _ (says-itself _) (either-says _ _ (eqb-says _ 0) (eqb-says _ 0)))

    tells-10 : Tells (pick (off (width_of w) (height_of w) (layer_of w n)) 10 0) 10 (OffScreen w n)
    unfolding off
    tells-10 = refuses _ 10 (both-says _ _ (says-itself _) (either-says _ _ (ltb-says _ _) (ltb-says _ _)))

    place-9 : (place_at w n ≡ 9) ↔ EmptyLayer w n
    unfolding place_at
    place-9 = rw (place_of-is (width_of w) (height_of w) (layer_of w n)) (own refl _ tells-9 (other 9 refl tells-10))

    place-10 : (place_at w n ≡ 10) ↔ ((¬ EmptyLayer w n) × OffScreen w n)
    unfolding place_at
    place-10 =
        rw (place_of-is (width_of w) (height_of w) (layer_of w n)) (past refl _ 10 refl tells-9 (given-when refl tells-10))

    place-0 : (place_at w n ≡ 0) ↔ Passes w n
    unfolding place_at
    place-0 =
        rw (place_of-is (width_of w) (height_of w) (layer_of w n)) (past refl _ 0 refl tells-9 (passed-when refl tells-10))

    place-misses : (r : ℕ) → eqb 9 r ≡ false → eqb 10 r ≡ false → Misses (place_at w n) r
    unfolding place_at
    place-misses r p q =
        rw (place_of-is (width_of w) (height_of w) (layer_of w n))
        (misses-or _ _ r (other r p tells-9) (other r q tells-10))

  places-miss : (r : ℕ) → eqb 9 r ≡ false → eqb 10 r ≡ false → Misses (first_of 8 (place_at w)) r
  places-miss r p q = misses-first 8 r (place_at w) (λ n. place-misses n r p q)

  -- ---- the check

  module _ (floats : Bool) where
    kind-is : (f t g : Bool) → pick f (pick (both t (not g)) 0 7) 0 ≡ pick (both f (not (both t (not g)))) 7 0
    kind-is true true true = refl
    kind-is true true false = refl
    kind-is true false g = refl
    kind-is false t g = refl

    not-says : {P : Type 0} (t : Bool) → Says t P → Says (not t) (¬ P)
    not-says true s = (λ e. absurd (false≢true e), λ e n. n (s.0 refl))
    not-says false s = (λ e. s.1 refl, λ e. absurd (false≢true (sym e)))

    is-not : (t : Bool) → Says (not t) (t ≡ false)
    is-not true = (λ e. absurd (false≢true e), λ e f. false≢true (sym f))
    is-not false = (λ e. refl, λ e. absurd (false≢true (sym e)))

    kind-at : (n : ℕ) → Tells (kind_at floats w n) 7
        (((layer_of w n).floats ≡ true) × ¬ ((floats ≡ true) × ((layer_of w n).graphics ≡ false)))
    unfolding kind_at kind_of
    kind-at n =
        rw (kind-is (layer_of w n).floats floats (layer_of w n).graphics)
        (refuses _ 7 (both-says _ _ (says-itself _)
        (not-says _ (both-says _ _ (says-itself floats) (is-not (layer_of w n).graphics)))))

    tells-kind : Tells (first_of 8 (kind_at floats w)) 7 (BadKind floats w)
    tells-kind =
        tells_as (λ p. (p.0, p.1, p.2.0, p.2.1), λ q. (q.0, q.1, (q.2, q.3)))
        (tells_first {P = λ n. ((layer_of w n).floats ≡ true) × ¬ ((floats ≡ true) × ((layer_of w n).graphics ≡ false))}
        8 7 (kind_at floats w) refl kind-at)

    -- both that give 7
    abbrev sevens : ℕ
    sevens = or_else (first_of 52 (reserved_at w)) (first_of 8 (kind_at floats w))

    tells-case7 : Tells sevens 7 (Case7 floats w)
    tells-case7 = tells-or (first_of 52 (reserved_at w)) (first_of 8 (kind_at floats w)) refl tells-7 tells-kind

    check-is : check_of floats w
        ≡ or_else sevens (or_else (screen_of w) (or_else (first_of 8 (place_at w)) (first_of 8 (clash_below w))))
    unfolding check_of
    check-is = or-or (first_of 52 (reserved_at w)) (first_of 8 (kind_at floats w)) _

    pub check-7 : (check_of floats w ≡ 7) ↔ Case7 floats w
    check-7 = rw check-is (own refl _ tells-case7 (misses-or (screen_of w) _ 7 (other 7 refl tells-8)
        (misses-or (first_of 8 (place_at w)) _ 7 (places-miss 7 refl refl) (other 7 refl tells-11))))

    pub check-8 : (check_of floats w ≡ 8) ↔ Case8 floats w
    check-8 = rw check-is (past refl _ 8 refl tells-case7 (own refl _ tells-8
        (misses-or (first_of 8 (place_at w)) _ 8 (places-miss 8 refl refl) (other 8 refl tells-11))))

    pub check-9 : (check_of floats w ≡ 9) ↔ Case9 floats w
    check-9 = rw check-is (past refl _ 9 refl tells-case7 (past refl _ 9 refl tells-8
        (or-first (first_of 8 (place_at w)) _ 9 refl (other 9 refl tells-11)
        (first-given (place_at w) place-0 9 refl place-9 8))))

    pub check-10 : (check_of floats w ≡ 10) ↔ Case10 floats w
    check-10 = rw check-is (past refl _ 10 refl tells-case7 (past refl _ 10 refl tells-8
        (or-first (first_of 8 (place_at w)) _ 10 refl (other 10 refl tells-11)
        (first-given (place_at w) place-0 10 refl place-10 8))))

    pub check-11 : (check_of floats w ≡ 11) ↔ Case11 floats w
    check-11 = rw check-is (past refl _ 11 refl tells-case7 (past refl _ 11 refl tells-8
        (or_later (first_of 8 (place_at w)) _ 11 (places-miss 11 refl refl) (first-passed (place_at w) place-0 8)
        (given-when refl tells-11))))

    pub check-0 : (check_of floats w ≡ 0) ↔ Passing floats w
    check-0 = (λ e. (check-accepted w floats e, check-let w floats e), λ p. accepted-check w floats p.0 p.1)

    -- it gives no other number
    pub check-misses : (r : ℕ) → eqb 7 r ≡ false → eqb 8 r ≡ false → eqb 9 r ≡ false → eqb 10 r ≡ false
        → eqb 11 r ≡ false → Misses (check_of floats w) r
    check-misses r a b c d e = rw check-is
        (misses-or sevens _ r (other r a tells-case7) (misses-or (screen_of w) _ r (other r b tells-8)
        (misses-or (first_of 8 (place_at w)) _ r (places-miss r c d) (other r e tells-11))))
