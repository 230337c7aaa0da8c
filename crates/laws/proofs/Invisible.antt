-- "a layer whose alpha is 0 all over may be switched off, its picture withdrawn with it". Assumes
-- nothing.
use mathlib.Core.Path.{◌≡◌, refl, sym, ap, ◌∙◌}
use mathlib.Core.Bool.{Bool, true, false, true≢false}
use mathlib.Core.Logic.{⊎_elim}
use mathlib.Core.List.{List}
use Prim.Native.Nat.{ℕ, ◌+◌, ◌*◌, ◌≤◌, ◌<◌}
use native.Mathlib.Omega.{arith}
use lib.ListN.{length, get_or}
use Rattle.lists.specs.Choice.{choose}
use Rattle.lists.specs.Cut.{cut}
use Rattle.lists.proofs.Choice.{same_or, split, pick-cong, pick-keeps, both_left}
use Rattle.lists.proofs.Cut.{length_cut, cut_low, cut_high}
use Rattle.lists.proofs.Sum.{sum-cong, sum_room, sum-without}
use Rattle.words.specs.declared.fields.Layer.{Layer}
use Rattle.words.specs.Fields.{layer_of}
use Rattle.words.specs.Check.{Plain, Accepted}
use Rattle.words.specs.Change.{with_off}
use Rattle.words.specs.Order.{here}
use Rattle.words.specs.Pictures.{picture_len, picture_len_at, picture_start, pictures_len, start_at}
use Rattle.river.specs.River.{bytes_from}
use Rattle.river.proofs.RiverLaws.{length-bytes}
use Rattle.words.proofs.ChangeLaws.{Kept, kept_off, switched_off, at_depth, with_off-same}
use Rattle.frames.specs.Scene.{Scene}
use Rattle.profiles.specs.Profile.{bits_of}
use Rattle.frames.specs.Pixel.{bank_bytes, colour_index, graphics_at, buffer_of, picture_at, own_at, over_at}
use Rattle.frames.specs.Band.{layer_step}
use Rattle.frames.specs.Frame.{frame_of}
use Rattle.laws.specs.Painting.{Ready, Clear, without}
use Rattle.laws.proofs.LayerLaws.{SameKind, kinds-let, accepted-alike}
use Rattle.laws.proofs.FloatLaws.{bytes_cut}
use Rattle.laws.proofs.Bands.{band_by-cong}
use Rattle.laws.proofs.Pixels.{picture-room, over-clear, over-same, frame_same}

module _ (s : Scene) (n : ℕ) (ready : Ready s) (hn : n < 8) where
  abbrev w : List ℕ
  w = s.words

  abbrev w' : List ℕ
  w' = with_off s.words n

  acc : Accepted w
  acc = ready.accepted

  -- ---- the words without the layer are accepted

  words-kept : Kept n w w'
  words-kept = kept_off w n hn ready.long

  layer-n : layer_of w' n ≡ switched_off (layer_of w n)
  layer-n = with_off-same w n hn ready.long

  off_n : (layer_of w' n).on ≡ true → ⊥
  off_n e = true≢false (sym e ∙ ap (λ (l : Layer). l.on) layer-n)

  other-m : (m : ℕ) → (m ≡ n → ⊥) → layer_of w' m ≡ layer_of w m
  other-m m ne = words-kept.other m ne

  -- a layer that is on afterwards is another, and was on
  was : (m : ℕ) → (layer_of w' m).on ≡ true → layer_of w' m ≡ layer_of w m
  was m o = ⊎_elim (λ (e : m ≡ n). absurd (off_n (rw e at o))) (λ (ne : m ≡ n → ⊥). other-m m ne) (same_or m n)

  plain : (k : ℕ) → k < 52 → Plain w' k
  plain = words-kept.plain acc.plain

  long : length w' ≡ 52
  long = words-kept.long ∙ ready.long

  -- each is of the kind that it was
  kinds : (m : ℕ) → SameKind (layer_of w' m) (layer_of w m)
  kinds m = ⊎_elim
      (λ (e : m ≡ n). rw (e, layer-n) (record { graphics = refl; floats = refl }))
      (λ (ne : m ≡ n → ⊥). rw (other-m m ne) (record { graphics = refl; floats = refl }))
      (same_or m n)

  acc' : Accepted w'
  acc' =
      accepted-alike w w' acc plain (words-kept.first 1 (omega arith)) kinds
      (λ m o. ap (λ (l : Layer). at_depth l 0) (was m o))
      (λ m k hm hk om ok om' ok' d. acc.apart m k hm hk om ok
      (sym (ap (λ (l : Layer). l.depth) (was m om')) ∙ d ∙ ap (λ (l : Layer). l.depth) (was k ok')))

  -- ---- where the other pictures begin now, in either buffer

  module _ (k : Bool) where
    len-n : picture_len_at k w' n ≡ 0
    unfolding picture_len_at picture_len
    len-n = ap (picture_len k) layer-n

    len-m : (m : ℕ) → (m ≡ n → ⊥) → picture_len_at k w' m ≡ picture_len_at k w m
    unfolding picture_len_at
    len-m m ne = ap (picture_len k) (other-m m ne)

    start-below : (m : ℕ) → m < n → picture_start k w' m ≡ picture_start k w m
    unfolding picture_start
    start-below m h = sum-cong m _ _ (λ i lt. len-m i (λ e. omega arith))

    start-above : (m : ℕ) → n < m → picture_start k w' m + picture_len_at k w n ≡ picture_start k w m
    unfolding picture_start
    start-above m h = sum-without m n _ _ h len-n (λ i lt ne. len-m i ne)

    total : pictures_len k w' + picture_len_at k w n ≡ pictures_len k w
    unfolding pictures_len
    total = sum-without 8 n _ _ hn len-n (λ i lt ne. len-m i ne)

    room : (m i : ℕ) → m < i → picture_start k w m + picture_len_at k w m ≤ picture_start k w i
    unfolding picture_start
    room m i h = sum_room i m (picture_len_at k w) h

    fits : picture_start k w n + picture_len_at k w n ≤ pictures_len k w
    unfolding picture_start pictures_len
    fits = sum_room 8 n (picture_len_at k w) hn

    -- so much of a buffer of that length as is left
    cut-same : (l : List ℕ) (m i : ℕ) → length l ≡ pictures_len k w → (m ≡ n → ⊥) → i < picture_len_at k w m
        → get_or (cut (picture_start k w n) (picture_len_at k w n) l) (picture_start k w' m + i) 0
        ≡ get_or l (picture_start k w m + i) 0
    cut-same l m i long ne h =
        let in-l : picture_start k w n + picture_len_at k w n ≤ length l = rw long fits in
        ⊎_elim
        (λ (lt : m < n). rw (start-below m lt) (cut_low l _ _ in-l (picture_start k w m + i) (omega (arith, room m n lt))))
        (λ (ge : n ≤ m).
        let e : picture_start k w' m + picture_len_at k w n ≡ picture_start k w m = start-above m (omega arith) in
        let r : picture_start k w n + picture_len_at k w n ≤ picture_start k w m = room n m (omega arith) in
        let t : picture_start k w' m + i + picture_len_at k w n ≡ picture_start k w m + i = omega arith in
        cut_high l _ _ in-l (picture_start k w' m + i) (omega arith) ∙ ap (λ (z : ℕ). get_or l z 0) t)
        (split m n)

  -- ---- the buffers, as bytes

  length-buffer : (m : ℕ) → length (buffer_of s m) ≡ pictures_len (layer_of w m).floats w
  unfolding buffer_of
  length-buffer m = go (layer_of w m).floats
    where
      go : (t : Bool) → length (choose t (bytes_from s.floats) s.pictures) ≡ pictures_len t w
      go true = length-bytes s.floats ∙ ready.floats
      go false = ready.pictures

  buffer-cut : (m : ℕ) → (m ≡ n → ⊥) → buffer_of (without s n) m
      ≡ cut (picture_start (layer_of w m).floats w n) (picture_len_at (layer_of w m).floats w n) (buffer_of s m)
  unfolding buffer_of without
  buffer-cut m ne = rw (other-m m ne) (go (layer_of w m).floats)
    where
      go : (t : Bool)
          → choose t (bytes_from (cut (picture_start true w n) (picture_len_at true w n) s.floats))
          (cut (picture_start false w n) (picture_len_at false w n) s.pictures)
          ≡ cut (picture_start t w n) (picture_len_at t w n) (choose t (bytes_from s.floats) s.pictures)
      go true = bytes_cut (picture_start true w n) (picture_len_at true w n) s.floats
      go false = refl

  start-own : (m : ℕ) → (m ≡ n → ⊥) → start_at w' m ≡ picture_start (layer_of w m).floats w' m
  unfolding start_at
  start-own m ne = ap (λ (l : Layer). picture_start l.floats w' m) (other-m m ne)

  picture-same : (m i : ℕ) → (m ≡ n → ⊥) → i < picture_len_at (layer_of w m).floats w m
      → get_or (buffer_of (without s n) m) (start_at w' m + i) 0 ≡ get_or (buffer_of s m) (start_at w m + i) 0
  unfolding start_at
  picture-same m i ne h =
      rw (buffer-cut m ne, start-own m ne)
      (cut-same (layer_of w m).floats (buffer_of s m) m i (length-buffer m) ne h)

  -- ---- the other layers show what they showed

  bank_bytes-same : (kind m : ℕ) → bank_bytes (bits_of s.profile) w' s.tables m kind
      ≡ bank_bytes (bits_of s.profile) w s.tables m kind
  unfolding bank_bytes
  bank_bytes-same kind m = rw (words-kept.first 3 (omega arith))

  own_same : (m u v c : ℕ) → (m ≡ n → ⊥) → (layer_of w m).on ≡ true → u < (layer_of w m).width → v < (layer_of w m).height
      → c < 4
      → own_at (without s n) m v u c ≡ own_at s m v u c
  unfolding own_at without graphics_at colour_index picture_at
  own_same m u v c ne o hu hv hc =
      rw (other-m m ne, bank_bytes-same 0 m, bank_bytes-same 1 m, bank_bytes-same 2 m, bank_bytes-same 3 m)
      (pick-cong (layer_of w m).graphics (λ t. refl)
      (λ f. picture-same m (4 * (v * (layer_of w m).width + u) + c) ne (picture-room w m u v c o f hu hv hc)))

  kept : (x y c d m p : ℕ) → c < 4 → (m ≡ n → ⊥)
      → layer_step w' (over_at (without s n) y x c) d m p ≡ layer_step w (over_at s y x c) d m p
  unfolding layer_step without
  kept x y c d m p hc ne =
      rw (other-m m ne)
      (pick-cong (here (layer_of w m) d)
      (λ t. over-same s (without s n) m (ap (λ (l : Layer). at_depth l 0) (other-m m ne)) refl
      (λ u v k hu hv hk. own_same m u v k ne (both_left _ _ t) hu hv hk) x y c p hc) (λ f. refl))

  -- ---- and layer n did nothing

  gone : (step : ℕ → ℕ → ℕ) (d p : ℕ) → layer_step w' step d n p ≡ p
  unfolding layer_step
  gone step d p = rw layer-n

  module _ (clear : Clear s n) where
    nothing : (x y c d p : ℕ) → layer_step w (over_at s y x c) d n p ≡ p
    unfolding layer_step
    nothing x y c d p =
        pick-keeps (λ (z : ℕ). z ≡ p) (here (layer_of w n) d) _ p (λ t. over-clear s x y c n p clear) (λ f. refl)

    step_same : (x y c d m p : ℕ) → c < 4
        → layer_step w' (over_at (without s n) y x c) d m p ≡ layer_step w (over_at s y x c) d m p
    step_same x y c d m p hc = ⊎_elim
        (λ (e : m ≡ n). rw e (gone _ d p ∙ sym (nothing x y c d p)))
        (λ (ne : m ≡ n → ⊥). kept x y c d m p hc ne)
        (same_or m n)

    withdrawn : Ready (without s n) × (frame_of (without s n) ≡ frame_of s)
    unfolding without
    withdrawn = (
      record {
        long = long;
        accepted = acc';
        let_in = kinds-let _ w w' kinds ready.let_in;
        shown = rw (words-kept.first 0 (omega arith)) ready.shown;
        tables = ready.tables;
        pictures =
            let c = length_cut s.pictures (picture_start false w n) (picture_len_at false w n)
            (rw ready.pictures (fits false)) in
            omega (arith, c, total false, ready.pictures);
        floats =
            let c = length_cut s.floats (picture_start true w n) (picture_len_at true w n)
            (rw ready.floats (fits true)) in
            omega (arith, c, total true, ready.floats);
      },
      frame_same s (without s n) (λ k h. words-kept.first k (omega arith))
          (λ x y c p hc. band_by-cong w' w (over_at (without s n) y x c) (over_at s y x c) 0 8 p
          (λ d m r hm. step_same x y c d m r hc)),
    )

-- the law: the settings are still accepted, the pictures have the right length, and no byte of the frame
-- changes
pub invisible : (s : Scene) (n : ℕ) → n < 8 → Ready s → Clear s n
    → Ready (without s n) × (frame_of (without s n) ≡ frame_of s)
invisible s n hn ready clear = withdrawn s n ready hn clear
