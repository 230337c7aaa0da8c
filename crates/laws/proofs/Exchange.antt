-- "two layers next to each other in depth that share no pixel may exchange depths". Assumes nothing.
use mathlib.Core.Path.{◌≡◌, refl, sym, ap, ◌∙◌}
use mathlib.Core.Bool.{Bool, true, false}
use mathlib.Core.Logic.{⊎_elim}
use mathlib.Core.List.{List}
use Prim.Native.Nat.{ℕ, ◌*◌, ◌^◌, ◌<◌}
use native.Mathlib.Omega.{arith}
use borrow.Author.Tests.{eqb-true}
use lib.Dec.{eqb}
use lib.Bits.{bit_or}
use lib.Ieee.{Float}
use lib.ListN.{length, get_or}
use Rattle.lists.specs.Choice.{pick, both}
use Rattle.lists.proofs.Choice.{same_or, both_false}
use Rattle.lists.proofs.Run.{run-cong, run-swap}
use Rattle.lists.proofs.Bits.{or_swap}
use Rattle.answers.specs.Answers.{done}
use Rattle.words.specs.Check.{Plain, Accepted}
use Rattle.words.specs.declared.fields.Layer.{Layer}
use Rattle.words.specs.Fields.{layer_of}
use Rattle.words.specs.Change.{with_depth}
use Rattle.words.specs.Order.{here}
use Rattle.words.proofs.ChangeLaws.{Kept, kept-depth, at_depth, with_depth-same}
use Rattle.frames.specs.Scene.{Scene}
use Rattle.frames.specs.Pixel.{covers, over_at}
use Rattle.frames.specs.Band.{layer_step, depth_step, band_by, missing, mark_at, errors_of}
use Rattle.frames.specs.Frame.{frame_len, refusal_of, frame_of}
use Rattle.frames.specs.Frame as painting
use Rattle.frames.proofs.PixelLaws.{over-outside}
use Rattle.display.specs.declared.Display.{Display}
use Rattle.display.specs.State.{told, with_active}
use Rattle.display.specs.Paint.{scene_with, frame_told, frame_bytes, paint_told}
use Rattle.laws.specs.Painting.{Ready, IsLayer, Neighbours, with_words, exchanged}
use Rattle.laws.proofs.LayerLaws.{Alike, depth-lt, alike-kind, accepted-alike}
use Rattle.laws.proofs.Bands.{depth_step-only, depth_step-none}
use Rattle.laws.proofs.Pixels.{ready-done, ready-alike, covers-not, over-alike, mark-alike, frame_same}

-- layer n is i, or j, or neither
data Who (i j n : ℕ) : Type 0 where
  is-i : n ≡ i → Who i j n
  is-j : n ≡ j → Who i j n
  other : (n ≡ i → ⊥) → (n ≡ j → ⊥) → Who i j n

who : (i j n : ℕ) → Who i j n
who i j n = ⊎_elim
    (λ (e : n ≡ i). is-i e)
    (λ (a : n ≡ i → ⊥). ⊎_elim (λ (e : n ≡ j). is-j e) (λ (b : n ≡ j → ⊥). other a b) (same_or n j))
    (same_or n i)

-- bits set where a test says so, in either order
pub mark-swap : (s t : Bool) (e a b : ℕ)
    → pick t (bit_or (pick s (bit_or e a) e) b) (pick s (bit_or e a) e)
    ≡ pick s (bit_or (pick t (bit_or e b) e) a) (pick t (bit_or e b) e)
mark-swap true true e a b = or_swap e a b
mark-swap true false e a b = refl
mark-swap false true e a b = refl
mark-swap false false e a b = refl

module _ (w : List ℕ) (i j : ℕ) (all : length w ≡ 52) (acc : Accepted w) (q : Neighbours w i j) where
  -- ---- the exchanged words

  ij : i ≡ j → ⊥
  ij e =
      let u = q.under in
      let d : (layer_of w i).depth ≡ (layer_of w j).depth = ap (λ (n : ℕ). (layer_of w n).depth) e in
      omega arith

  half : List ℕ
  half = with_depth w i (layer_of w j).depth

  half-kept : Kept i w half
  unfolding half
  half-kept = kept-depth w i q.low.number all (layer_of w j).depth (depth-lt w j)

  long-half : length half ≡ 52
  long-half = half-kept.long ∙ all

  all-kept : Kept j half (exchanged w i j)
  unfolding exchanged half
  all-kept = kept-depth half j q.high.number long-half (layer_of w i).depth (depth-lt w i)

  layer-i : layer_of (exchanged w i j) i ≡ at_depth (layer_of w i) (layer_of w j).depth
  unfolding exchanged half
  layer-i =
      all-kept.other i ij ∙ with_depth-same w i q.low.number all (layer_of w j).depth (depth-lt w j)

  layer-j : layer_of (exchanged w i j) j ≡ at_depth (layer_of w j) (layer_of w i).depth
  unfolding exchanged half
  layer-j =
      with_depth-same half j q.high.number long-half (layer_of w i).depth (depth-lt w i)
      ∙ ap (λ (l : Layer). at_depth l (layer_of w i).depth) (half-kept.other j (λ e. ij (sym e)))

  layer-m : (m : ℕ) → (m ≡ i → ⊥) → (m ≡ j → ⊥) → layer_of (exchanged w i j) m ≡ layer_of w m
  layer-m m a b = all-kept.other m b ∙ half-kept.other m a

  -- but for the depth every layer is what it was
  alike : (n : ℕ) → Alike (layer_of (exchanged w i j) n) (layer_of w n)
  alike n = go (who i j n)
    where
      go : Who i j n → Alike (layer_of (exchanged w i j) n) (layer_of w n)
      go (is-i e) = rw e (ap (λ (l : Layer). at_depth l 0) layer-i)
      go (is-j e) = rw e (ap (λ (l : Layer). at_depth l 0) layer-j)
      go (other a b) = ap (λ (l : Layer). at_depth l 0) (layer-m n a b)

  pub exchanged-word : (k : ℕ) → k < 4 → get_or (exchanged w i j) k 0 ≡ get_or w k 0
  exchanged-word k h = all-kept.first k h ∙ half-kept.first k h

  -- ---- they are accepted

  plain : (k : ℕ) → k < 52 → Plain (exchanged w i j) k
  plain = all-kept.plain (half-kept.plain acc.plain)

  on_same : (n : ℕ) → (layer_of (exchanged w i j) n).on ≡ (layer_of w n).on
  on_same n = ap (λ (l : Layer). l.on) (alike n)

  one-depth : (n m : ℕ) → n < 8 → m < 8 → (layer_of w n).on ≡ true → (layer_of w m).on ≡ true
      → (layer_of (exchanged w i j) n).depth ≡ (layer_of (exchanged w i j) m).depth → n ≡ m
  one-depth n m hn hm on om d = go (who i j n) (who i j m)
    where
      of-i : (k : ℕ) → k ≡ i → (layer_of (exchanged w i j) k).depth ≡ (layer_of w j).depth
      of-i k e = rw e (ap (λ (l : Layer). l.depth) layer-i)

      of-j : (k : ℕ) → k ≡ j → (layer_of (exchanged w i j) k).depth ≡ (layer_of w i).depth
      of-j k e = rw e (ap (λ (l : Layer). l.depth) layer-j)

      of-m : (k : ℕ) → (k ≡ i → ⊥) → (k ≡ j → ⊥) → (layer_of (exchanged w i j) k).depth ≡ (layer_of w k).depth
      of-m k a b = ap (λ (l : Layer). l.depth) (layer-m k a b)

      -- another layer has neither depth
      not-j : (k : ℕ) → k < 8 → (layer_of w k).on ≡ true → (k ≡ j → ⊥) → (layer_of w k).depth ≡ (layer_of w j).depth → ⊥
      not-j k hk ok b e = b (acc.apart k j hk q.high.number ok q.high.on e)

      not-i : (k : ℕ) → k < 8 → (layer_of w k).on ≡ true → (k ≡ i → ⊥) → (layer_of w k).depth ≡ (layer_of w i).depth → ⊥
      not-i k hk ok a e = a (acc.apart k i hk q.low.number ok q.low.on e)

      go : Who i j n → Who i j m → n ≡ m
      go (is-i e) (is-i f) = e ∙ sym f
      go (is-i e) (is-j f) = omega (arith, of-i n e, of-j m f, q.under)
      go (is-i e) (other a b) = absurd (not-j m hm om b (sym (of-m m a b) ∙ sym d ∙ of-i n e))
      go (is-j e) (is-i f) = omega (arith, of-j n e, of-i m f, q.under)
      go (is-j e) (is-j f) = e ∙ sym f
      go (is-j e) (other a b) = absurd (not-i m hm om a (sym (of-m m a b) ∙ sym d ∙ of-j n e))
      go (other a b) (is-i f) = absurd (not-j n hn on b (sym (of-m n a b) ∙ d ∙ of-i m f))
      go (other a b) (is-j f) = absurd (not-i n hn on a (sym (of-m n a b) ∙ d ∙ of-j m f))
      go (other a b) (other a' b') = acc.apart n m hn hm on om (sym (of-m n a b) ∙ d ∙ of-m m a' b')

  long : length (exchanged w i j) ≡ 52
  long = all-kept.long ∙ long-half

  pub exchange-accepted : Accepted (exchanged w i j)
  exchange-accepted =
      accepted-alike w (exchanged w i j) acc plain (exchanged-word 1 (omega arith))
      (λ n. alike-kind (layer_of (exchanged w i j) n) (layer_of w n) (alike n)) (λ n o. alike n)
      (λ n m hn hm on om on' om' d. one-depth n m hn hm on om d)

  -- ---- a fold over them

  miss : (k m d : ℕ) → (d ≡ (layer_of w m).depth → ⊥) → both (layer_of w k).on (eqb (layer_of w m).depth d) ≡ false
  miss k m d ne = both_false (layer_of w k).on (eqb (layer_of w m).depth d) (λ o t. ne (sym (eqb-true _ _ t)))

  here-same : (n d : ℕ) → (d ≡ (layer_of w i).depth → ⊥) → (d ≡ (layer_of w j).depth → ⊥)
      → here (layer_of (exchanged w i j) n) d ≡ here (layer_of w n) d
  here-same n d a b = go (who i j n)
    where
      go : Who i j n → here (layer_of (exchanged w i j) n) d ≡ here (layer_of w n) d
      go (is-i e) = rw e (ap (λ (z : Layer). here z d) layer-i ∙ miss i j d b ∙ sym (miss i i d a))
      go (is-j e) = rw e (ap (λ (z : Layer). here z d) layer-j ∙ miss j i d a ∙ sym (miss j j d b))
      go (other k l) = ap (λ (z : Layer). here z d) (layer-m n k l)

  layer-i' : IsLayer (exchanged w i j) i
  layer-i' = record { number = q.low.number; on = on_same i ∙ q.low.on }

  layer-j' : IsLayer (exchanged w i j) j
  layer-j' = record { number = q.high.number; on = on_same j ∙ q.high.on }

  -- steps that are the same for both words, and of which those of i and j go in either order
  module _ (step step' : ℕ → ℕ → ℕ) (same : (n p : ℕ) → step' n p ≡ step n p)
      (commute : (p : ℕ) → step j (step i p) ≡ step i (step j p)) where
    at_rest : (d p : ℕ) → (d ≡ (layer_of w i).depth → ⊥) → (d ≡ (layer_of w j).depth → ⊥)
        → depth_step (exchanged w i j) step' d p ≡ depth_step w step d p
    unfolding depth_step layer_step
    at_rest d p a b = run-cong 0 8 _ _ p (λ n r v. rw (here-same n d a b, same n r))

    at_low : (p : ℕ) → depth_step (exchanged w i j) step' (layer_of w i).depth p ≡ step j p
    at_low p =
        depth_step-only (exchanged w i j) step' j _ p exchange-accepted layer-j'
        (ap (λ (l : Layer). l.depth) layer-j) ∙ same j p

    at_high : (p : ℕ) → depth_step (exchanged w i j) step' (layer_of w j).depth p ≡ step i p
    at_high p =
        depth_step-only (exchanged w i j) step' i _ p exchange-accepted layer-i'
        (ap (λ (l : Layer). l.depth) layer-i) ∙ same i p

    both-steps : (r : ℕ)
        → depth_step w step (layer_of w j).depth (depth_step w step (layer_of w i).depth r) ≡ step j (step i r)
    both-steps r =
        ap (depth_step w step (layer_of w j).depth) (depth_step-only w step i _ r acc q.low refl)
        ∙ depth_step-only w step j _ _ acc q.high refl

    exchange-band : (p : ℕ) → band_by (exchanged w i j) step' 0 8 p ≡ band_by w step 0 8 p
    unfolding band_by
    exchange-band p =
        run-swap 0 8 (layer_of w i).depth (layer_of w j).depth (depth_step (exchanged w i j) step')
        (depth_step w step) p (omega arith) q.under (depth-lt w j)
        (λ d r v a b. at_rest d r a b)
        (λ d r lo hi. at_rest d r (λ e. omega arith) (λ e. omega arith)
        ∙ depth_step-none w step d r (λ m lm dm. q.next m lm (omega arith) (omega arith)))
        (λ r. ap (depth_step (exchanged w i j) step' (layer_of w j).depth) (at_low r) ∙ at_high (step j r)
        ∙ sym (commute r) ∙ sym (both-steps r))

module _ (s : Scene) (i j : ℕ) (ready : Ready s) (q : Neighbours s.words i j) where
  abbrev w : List ℕ
  w = s.words

  abbrev w' : List ℕ
  w' = exchanged s.words i j

  abbrev s' : Scene
  s' = with_words s w'

  acc : Accepted w
  acc = ready.accepted

  banks : get_or w' 3 0 ≡ get_or w 3 0
  banks = exchanged-word w i j ready.long acc q 3 (omega arith)

  -- at a pixel one of the two does nothing, so they may go in either order
  commute : (x y c p : ℕ) → over_at s y x c j (over_at s y x c i p) ≡ over_at s y x c i (over_at s y x c j p)
  commute x y c p = go (covers (layer_of w i) y x) refl (covers (layer_of w j) y x) refl
    where
      go : (a : Bool) → covers (layer_of w i) y x ≡ a → (b : Bool) → covers (layer_of w j) y x ≡ b
          → over_at s y x c j (over_at s y x c i p) ≡ over_at s y x c i (over_at s y x c j p)
      go true e true f = absurd (q.apart x y e f)
      go true e false f =
          over-outside s x y c j _ (covers-not (layer_of w j) x y f)
          ∙ ap (over_at s y x c i) (sym (over-outside s x y c j p (covers-not (layer_of w j) x y f)))
      go false e b f =
          ap (over_at s y x c j) (over-outside s x y c i p (covers-not (layer_of w i) x y e))
          ∙ sym (over-outside s x y c i _ (covers-not (layer_of w i) x y e))

  mark-commute : (e : ℕ) → mark_at s j (mark_at s i e) ≡ mark_at s i (mark_at s j e)
  unfolding mark_at
  mark-commute e = mark-swap (missing s i) (missing s j) e (2 ^ (4 * i)) (2 ^ (4 * j))

  over-both : Ready s' × (frame_of s' ≡ frame_of s) × ((errors : ℕ) → errors_of s' 0 8 errors ≡ errors_of s 0 8 errors)
  unfolding errors_of
  over-both = (
    ready-alike s w' (alike w i j ready.long acc q) banks ready (long w i j ready.long acc q)
        (exchange-accepted w i j ready.long acc q) (exchanged-word w i j ready.long acc q 0 (omega arith)),
    frame_same s s' (λ k h. exchanged-word w i j ready.long acc q k (omega arith))
        (λ x y c p hc. exchange-band w i j ready.long acc q (over_at s y x c) (over_at s' y x c)
        (λ n r. over-alike s w' (alike w i j ready.long acc q) banks x y c n r hc) (commute x y c) p),
    λ e. rw (
      exchanged-word w i j ready.long acc q 0 (omega arith),
      exchange-band w i j ready.long acc q
          (mark_at s) (mark_at s') (mark-alike s w' (alike w i j ready.long acc q) banks) mark-commute e,
    ),
  )

-- the law: the settings are still accepted, with right buffers; no byte of the frame changes; and the error
-- word comes out the same, so of the state only the exchanged fields differ
pub exchange : (s : Scene) (i j : ℕ) → Ready s → Neighbours s.words i j
    → let s' = with_words s (exchanged s.words i j) in
    Ready s' × (frame_of s' ≡ frame_of s) × ((errors : ℕ) → errors_of s' 0 8 errors ≡ errors_of s 0 8 errors)
exchange s i j ready q = over-both s i j ready q

-- as the display tells it: the same bytes, the same answer, and a state that differs in the exchanged
-- fields alone
pub exchange-frame : (d : Display) (tables pictures : List ℕ) (floats : List Float) (out : List ℕ) (i j : ℕ)
    → Ready (scene_with d tables pictures floats)
    → Neighbours d.active i j → length out ≡ frame_len d.active
    → let e = with_active d (exchanged d.active i j) in
    (frame_bytes e tables pictures floats out ≡ frame_bytes d tables pictures floats out)
    × (frame_told e tables pictures floats out
    ≡ told (with_active (frame_told d tables pictures floats out).state (exchanged d.active i j))
    (frame_told d tables pictures floats out).answer)
unfolding frame_bytes frame_told painting.frame_after paint_told painting.errors_after
exchange-frame d tables pictures floats out i j ready q long =
    let s : Scene = scene_with d tables pictures floats in
    let x = exchange s i j ready q in
    let same : get_or (exchanged d.active i j) 1 0 ≡ get_or d.active 1 0 =
    exchanged-word d.active i j ready.long ready.accepted q 1 (omega arith) in
    let here : refusal_of s 0 8 out ≡ done = ready-done s 0 8 out ready (omega arith) (omega arith) long in
    let there : refusal_of (with_words s (exchanged d.active i j)) 0 8 out ≡ done =
    ready-done _ 0 8 out x.0 (omega arith) (omega arith) (rw same long) in
    (rw (here, there) x.1, rw (here, there, x.2 d.errors))
