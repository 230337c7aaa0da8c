-- The turn of the loop over the loads, where what is left from here on ends where the whole does;
-- and the parts put together. Assumes nothing.
use Prim.Native.Nat.{ℕ, zero, suc, ◌+◌, ◌-◌, ◌*◌, ◌<◌, ◌≤◌}
use mathlib.Core.Path.{◌≡◌, refl, sym, ap, ◌∙◌}
use mathlib.Core.Bool.{Bool, true, false}
use mathlib.Core.List.{List}
use native.Mathlib.Omega.{arith}
use lib.ListN.{length}
use lib.Dec.{eqb}
use borrow.Author.Tests.{eqb-true, eq-eqb, ne_eqb}
use Rattle.std.specs.Prelude.{Ok, Err}
use Rattle.lists.specs.Choice.{choose}
use Rattle.steps.specs.declared.form.Parts.{Parts}
use Rattle.steps.specs.Form.{byte_at, count_at, past_loads, writes_place, picture_place, end_place, is_formed}
use Rattle.steps.specs.Engine.Parts.{places_of, parts_of}

-- a loop that counts down: one is left
pub one_left : {n : ℕ} → 0 < n → n ≡ suc (n - 1)
one_left {n} h = omega arith

-- a loop of n turns, of which i are done: one is left, none is left
pub turn_left : {n i : ℕ} → i < n → n - i ≡ suc (n - (i + 1))
turn_left {n} {i} h = omega arith

pub none_left : {n i : ℕ} → n ≤ i → n - i ≡ 0
none_left {n} {i} h = omega arith

pub past_loads-turn : (b : List ℕ) (n i at k w : ℕ) → i < n → past_loads (n - i) b at ≡ w → k ≡ count_at b (at + 1)
    → past_loads (n - (i + 1)) b (at + 3 + k) ≡ w
unfolding past_loads
past_loads-turn b n i at k w h e q = rw q (sym (ap (λ (m : ℕ). past_loads m b at) (turn_left h)) ∙ e)

pub past_loads-end : (b : List ℕ) (n i at w : ℕ) → n ≤ i → past_loads (n - i) b at ≡ w → at ≡ w
unfolding past_loads
past_loads-end b n i at w h e = sym (ap (λ (m : ℕ). past_loads m b at) (none_left h)) ∙ e

-- loads end no earlier than they begin
past_room : (n : ℕ) (b : List ℕ) (at : ℕ) → at ≤ past_loads n b at
unfolding past_loads
past_room zero b at = omega arith
past_room (suc n) b at = let h = past_room n b (at + 3 + count_at b (at + 1)) in omega arith

-- and so a load lies within where all of them do
pub load-room : (b : List ℕ) (n i at w : ℕ) → i < n → past_loads (n - i) b at ≡ w → w ≤ length b
    → at + 3 + count_at b (at + 1) ≤ length b
load-room b n i at w h e l =
    let t = past_loads-turn b n i at (count_at b (at + 1)) w h e refl in
    let q = past_room (n - (i + 1)) b (at + 3 + count_at b (at + 1)) in
    omega arith

module _ (b : List ℕ) (w x : ℕ) (ew : w ≡ writes_place b) (ex : x ≡ byte_at b w) where
  picture-is : w + 1 + 5 * x ≡ picture_place b
  unfolding picture_place
  picture-is = rw (ex, ew) refl

  pub places_is : record { writes = w; picture = w + 1 + 5 * x } ≡ places_of b
  places_is = rw (picture-is, ew) refl

  end_is : (k : ℕ) → k ≡ count_at b (w + 1 + 5 * x) → w + 1 + 5 * x + 2 + k ≡ end_place b
  unfolding end_place
  end_is k ek = rw (ek, picture-is) refl

-- a line is good where its parts end at its end, and only there
pub good_is : (b : List ℕ) (p : Parts) (k : ℕ) → p ≡ places_of b → k ≡ count_at b p.picture
    → p.picture + 2 + k ≡ length b → Ok p ≡ parts_of b
unfolding is_formed end_place
good_is b p k ep ek e =
    let g : eqb (end_place b) (length b) ≡ true = eq-eqb (end_place b) (length b) (rw (ek, ep) at e) in
    rw (ep, g) refl

pub bad_is : (b : List ℕ) (p : Parts) (k : ℕ) → p ≡ places_of b → k ≡ count_at b p.picture
    → (p.picture + 2 + k ≡ length b → ⊥) → Err p ≡ parts_of b
unfolding is_formed end_place
bad_is b p k ep ek ne =
    let g : eqb (end_place b) (length b) ≡ false =
    ne_eqb (end_place b) (length b) (λ (q : end_place b ≡ length b). ne (rw (ek, ep) q)) in
    rw (ep, g) refl

-- and so a line with parts is well formed, and one of bad form is not
pub some-parts : (b : List ℕ) (p : Parts) → Ok p ≡ parts_of b → (is_formed b ≡ true) × (p ≡ places_of b)
some-parts b p e = go (is_formed b) e
  where
    go : (z : Bool) → Ok p ≡ choose z (Ok (places_of b)) (Err (places_of b)) → (z ≡ true) × (p ≡ places_of b)
    go true q = (refl, grind arith)
    go false q = grind arith

pub no-parts : (b : List ℕ) (p : Parts) → Err p ≡ parts_of b → is_formed b ≡ false
no-parts b p e = go (is_formed b) e
  where
    go : (z : Bool) → Err p ≡ choose z (Ok (places_of b)) (Err (places_of b)) → z ≡ false
    go true q = grind arith
    go false q = refl

-- a well formed line has its picture's byte count within
pub picture-room : (b : List ℕ) (p : Parts) → Ok p ≡ parts_of b → p.picture + 2 ≤ length b
unfolding is_formed end_place
picture-room b p e =
    let f = some-parts b p e in
    let l : picture_place b + 2 + count_at b (picture_place b) ≡ length b = eqb-true (end_place b) (length b) f.0 in
    let k : p.picture ≡ picture_place b = ap (λ (q : Parts). q.picture) f.1 in
    omega arith

-- and its loads
pub writes-room : (b : List ℕ) (p : Parts) → Ok p ≡ parts_of b → p.writes ≤ length b
unfolding picture_place
writes-room b p e =
    let f = some-parts b p e in
    let h = picture-room b p e in
    let w : p.writes ≡ writes_place b = ap (λ (q : Parts). q.writes) f.1 in
    let k : p.picture ≡ writes_place b + 1 + 5 * byte_at b (writes_place b) = ap (λ (q : Parts). q.picture) f.1 in
    omega arith
