-- Where the pictures stand: their lengths stay small, and each lies in its own buffer. Assumes nothing.
use mathlib.Core.Path.{◌≡◌, refl, sym, ◌∙◌}
use mathlib.Core.Bool.{Bool, true, false, not, true≢false}
use mathlib.Core.List.{List}
use Prim.Native.Nat.{ℕ, ◌+◌, ◌*◌, ◌≤◌, ◌<◌}
use native.Mathlib.Nat.{mul-le-mul}
use native.Mathlib.Omega.{arith}
use Rattle.lists.specs.Choice.{pick, both, agree}
use Rattle.lists.specs.Runs.{sum_of}
use Rattle.lists.proofs.Choice.{pick-keeps, both-none}
use Rattle.lists.proofs.Sum.{sum-le, sum_room, sum-cong, sum-zero}
use Rattle.words.specs.declared.fields.Layer.{Layer}
use Rattle.words.specs.Fields.{layer_of}
use Rattle.words.specs.Check.{LetIn}
use Rattle.words.specs.Pictures.{picture_len, picture_len_at, picture_start, pictures_len, start_at}

-- a picture is at most 4095 by 4095 pixels
wide : (w : List ℕ) (n : ℕ) → (layer_of w n).width ≤ 4095
unfolding layer_of
wide w n = omega arith

tall : (w : List ℕ) (n : ℕ) → (layer_of w n).height ≤ 4095
unfolding layer_of
tall w n = omega arith

pub picture_len_at-le : (k : Bool) (w : List ℕ) (n : ℕ) → picture_len_at k w n ≤ 67076100
unfolding picture_len_at picture_len
picture_len_at-le k w n =
    let l = layer_of w n in
    pick-keeps (λ (z : ℕ). z ≤ 67076100) (both l.on (both (not l.graphics) (agree k l.floats)))
    (4 * (l.width * l.height)) 0
    (λ t. omega (arith, mul-le-mul (wide w n) (tall w n)))
    (λ t. omega arith)

pub picture_start-le : (k : Bool) (w : List ℕ) (n : ℕ) → n ≤ 8 → picture_start k w n ≤ 536608800
unfolding picture_start
picture_start-le k w n h =
    let r : sum_of n (picture_len_at k w) ≤ n * 67076100 = sum-le n 67076100 (picture_len_at k w)
    (λ i _. picture_len_at-le k w i) in
    omega arith

-- ---- a layer's picture in its own buffer

pub agree-self : (k : Bool) → agree k k ≡ true
agree-self true = refl
agree-self false = refl

pub own-len : (w : List ℕ) (n : ℕ) → (layer_of w n).on ≡ true → (layer_of w n).graphics ≡ false
    → picture_len_at (layer_of w n).floats w n ≡ 4 * ((layer_of w n).width * (layer_of w n).height)
unfolding picture_len_at picture_len
own-len w n o g = rw (o, g, agree-self (layer_of w n).floats)

-- in the other it has none
pub other-len : (k : Bool) (l : Layer) → agree k l.floats ≡ false → picture_len k l ≡ 0
unfolding picture_len
other-len k l e = rw (e, both-none (not l.graphics), both-none l.on)

-- it lies in its own
pub own_room : (k : Bool) (w : List ℕ) (n : ℕ) → n < 8 → (layer_of w n).on ≡ true → (layer_of w n).graphics ≡ false
    → (layer_of w n).floats ≡ k
    → start_at w n + 4 * ((layer_of w n).width * (layer_of w n).height) ≤ pictures_len k w
unfolding start_at picture_start pictures_len
own_room k w n h o g f =
    rw (← (own-len w n o g), f) (sum_room 8 n (picture_len_at k w) h)

-- where no layer is a float layer, there are no floats
pub no_floats : (w : List ℕ) → LetIn false w → pictures_len true w ≡ 0
unfolding pictures_len picture_len_at picture_len
no_floats w none = sum-cong 8 _ (λ _. 0) (λ n h. go (layer_of w n) (layer_of w n).floats (none n h)) ∙ sum-zero 8
  where
    go : (l : Layer) (f : Bool) → (f ≡ true → false ≡ true)
        → pick (both l.on (both (not l.graphics) f)) (4 * (l.width * l.height)) 0 ≡ 0
    go l true h = absurd (true≢false (sym (h refl)))
    go l false h = rw (both-none (not l.graphics), both-none l.on)
