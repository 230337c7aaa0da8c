-- K7's step may trade places with each of the five others, and so it may stand anywhere among them: the request does
-- not say where. Assumes nothing.
use mathlib.Core.Path.{◌≡◌, refl, sym, ap, ap₂, ◌∙◌}
use mathlib.Core.Bool.{Bool, true, false}
use mathlib.Core.Logic.{⊎_elim}
use mathlib.Core.List.{List}
use Prim.Native.Nat.{ℕ, ◌+◌, ◌-◌, ◌*◌, ◌/◌, ◌%◌, ◌≤◌, ◌<◌}
use native.Mathlib.Omega.{arith}
use lib.Bits.{bit_and, and_mod, and_shr, and_le_l}
use lib.ListN.{get_or}
use Rattle.lists.specs.Choice.{choose}
use Rattle.lists.specs.Runs.{first_of, run}
use Rattle.lists.proofs.Bits.{masked-field}
use Rattle.lists.proofs.Choice.{same_or, choose-keeps}
use Rattle.lists.proofs.Run.{run-hands, trade-step, trade-turns}
use Rattle.lists.proofs.Tab.{length-tab}
use Rattle.words.specs.declared.fields.Layer.{Layer}
use Rattle.words.specs.Fields.{low_of, high_of, layer_of}
use Rattle.words.specs.Change.{off_word, bytes_word, depth_word, with_off, with_bytes, with_depth}
use Rattle.words.proofs.ChangeLaws.{mask-free, kept_off, kept-bytes, of_bytes, at_depth, with_off-same, with_bytes-same}
use Rattle.words.proofs.ChangeLaws.{with_depth-alike}
use Rattle.repair.specs.Steps.{cleared_at, cleared, is_twofold, one_kind_at, one_kind, is_empty, empty_off, empties_off}
use Rattle.repair.specs.Steps.{is_large, large_off, larges_off, fit_at, fit, spread, placed, mend_of}
use Rattle.repair.proofs.PlaceLaws.{clear-layer}
use Rattle.repair.proofs.OrderLaws.{Long, first-trade, off_by, long-off, first-cleared, Alike, spread-turns}
use Rattle.repair.proofs.OrderLaws.{fit-long, fit-layers, fit-first}

-- ---- a word

-- by its digits: bit 2, what is above it and what is below
bytes-is : (x a b c : ℕ) → x ≡ a * 8 + b * 4 + c → b < 2 → c < 4 → bytes_word x ≡ a * 8 + c
bytes-is x a b c e p q = omega arith

digits : (x : ℕ) → (x ≡ x / 8 * 8 + x / 4 % 2 * 4 + x % 4) × (x / 4 % 2 < 2) × (x % 4 < 4)
digits x = (omega arith, omega arith, omega arith)

-- bit 2 and bit 0 cleared, in either order
bytes-off : (x : ℕ) → off_word (bytes_word x) ≡ bytes_word (off_word x)
bytes-off x = let d = digits x in go (x / 8) (x / 4 % 2) (x % 4) d.0 d.1 d.2
  where
    go : (a b c : ℕ) → x ≡ a * 8 + b * 4 + c → b < 2 → c < 4 → off_word (bytes_word x) ≡ bytes_word (off_word x)
    go a b c e p q =
        let f : off_word x ≡ a * 8 + b * 4 + c / 2 * 2 = omega arith in
        let g : c / 2 * 2 < 4 = omega arith in
        let h : off_word (a * 8 + c) ≡ a * 8 + c / 2 * 2 = omega arith in
        ap off_word (bytes-is x a b c e p q) ∙ h ∙ sym (bytes-is (off_word x) a b (c / 2 * 2) f p g)

-- and with a depth given
bytes-depth : (d x : ℕ) → depth_word (bytes_word x) d ≡ bytes_word (depth_word x d)
bytes-depth d x =
    let f : x % 256 ≡ x % 256 / 8 * 8 + x / 4 % 2 * 4 + x % 4 = omega arith in
    go (x / 2048) (x / 256 % 8) (x % 256 / 8) (x / 4 % 2) (x % 4) (omega arith) (omega arith) (omega arith) (omega arith)
    (omega arith)
  where
    deep : (y t e u : ℕ) → y ≡ t * 2048 + e * 256 + u → e < 8 → u < 256 → depth_word y d ≡ t * 2048 + d * 256 + u
    deep y t e u p q r = omega arith

    go : (t e u b c : ℕ) → x ≡ t * 2048 + e * 256 + (u * 8 + b * 4 + c) → e < 8 → u < 32 → b < 2 → c < 4
        → depth_word (bytes_word x) d ≡ bytes_word (depth_word x d)
    go t e u b c f he hu hb hc =
        deep (bytes_word x) t e (u * 8 + c)
        (bytes-is x (t * 256 + e * 32 + u) b c (omega arith) hb hc ∙ omega arith) he (omega arith)
        ∙ omega arith
        ∙ sym (bytes-is (depth_word x d) (t * 256 + d * 32 + u) b c
        (deep x t e (u * 8 + b * 4 + c) f he (omega arith) ∙ omega arith) hb hc)

-- and with reserved bits: what is taken out is the same with bit 2 and without it, since the mask has not that bit
bytes-clear : (M : ℕ) → M / 4 % 2 ≡ 0 → (x : ℕ) → bytes_word x - bit_and (bytes_word x) M ≡ bytes_word (x - bit_and x M)
bytes-clear M m x =
    let d = digits x in
    let q : bytes_word x / 8 ≡ x / 8 = omega arith in
    let r : bytes_word x % 4 ≡ x % 4 = omega arith in
    go (x / 8) (x / 4 % 2) (x % 4) (bit_and x M) (bit_and (bytes_word x) M) (bit_and (x / 8) (M / 8)) (bit_and (x % 4) (M % 4))
    d.0 d.1 d.2
    (taken (bit_and x M) _ _ (and_shr x M 3) (and_mod x M 2) (masked-field 2 1 x M m))
    (taken (bit_and (bytes_word x) M) _ _ (and_shr (bytes_word x) M 3 ∙ ap (λ (z : ℕ). bit_and z (M / 8)) q)
    (and_mod (bytes_word x) M 2 ∙ ap (λ (z : ℕ). bit_and z (M % 4)) r) (masked-field 2 1 (bytes_word x) M m))
    (and_le_l (x / 8) (M / 8)) (and_le_l (x % 4) (M % 4))
  where
    taken : (s a c : ℕ) → s / 8 ≡ a → s % 4 ≡ c → s / 4 % 2 ≡ 0 → s ≡ a * 8 + c
    taken s a c p q r = omega arith

    go : (a b c s t a' c' : ℕ) → x ≡ a * 8 + b * 4 + c → b < 2 → c < 4 → s ≡ a' * 8 + c' → t ≡ a' * 8 + c' → a' ≤ a → c' ≤ c
        → bytes_word x - t ≡ bytes_word (x - s)
    go a b c s t a' c' e p q f g la lc =
        let h : x - s ≡ (a - a') * 8 + b * 4 + (c - c') = omega arith in
        let k : c - c' < 4 = omega arith in
        ap (λ (z : ℕ). z - t) (bytes-is x a b c e p q) ∙ omega arith ∙ sym (bytes-is (x - s) (a - a') b (c - c') h p k)

-- ---- a layer

module _ (m : ℕ) (v : List ℕ) (h : m < 8) (long : Long v) where
  -- but for bit 2 the layers are what they were
  bytes-layer : (n : ℕ) → of_bytes (layer_of (with_bytes v m) n) ≡ of_bytes (layer_of v n)
  bytes-layer n = ⊎_elim
      (λ (e : n ≡ m). rw e (ap of_bytes (with_bytes-same v m h long)))
      (λ (ne : n ≡ m → ⊥). ap of_bytes ((kept-bytes v m h long).other n ne))
      (same_or n m)

  kind-long : Long (one_kind_at m v)
  unfolding one_kind_at
  kind-long =
      choose-keeps Long (is_twofold (layer_of v m)) (with_bytes v m) v (λ _. (kept-bytes v m h long).long ∙ long) (λ _. long)

  -- a step that does not see bit 2 and leaves bits 1 and 2
  kind-trade : (F : List ℕ → List ℕ) → F (with_bytes v m) ≡ with_bytes (F v) m
      → is_twofold (layer_of (F v) m) ≡ is_twofold (layer_of v m) → F (one_kind_at m v) ≡ one_kind_at m (F v)
  unfolding one_kind_at
  kind-trade F e k = rw k (go (is_twofold (layer_of v m)))
    where
      go : (t : Bool) → F (choose t (with_bytes v m) v) ≡ choose t (with_bytes (F v) m) (F v)
      go true = e
      go false = refl

  -- ---- with 1

  clear-kind : cleared (one_kind_at m v) ≡ one_kind_at m (cleared v)
  unfolding with_bytes first_of
  clear-kind =
      kind-trade cleared (first-cleared m v h long bytes_word (bytes-clear _ (mask-free 4 2 1 refl m h)))
      (ap is_twofold (clear-layer v m h))

  -- ---- with 4

  fit-kind : (n : ℕ) → n < 8 → fit_at n (one_kind_at m v) ≡ one_kind_at m (fit_at n v)
  unfolding with_bytes is_twofold
  fit-kind n hn =
      kind-trade (fit_at n)
      (fit-first n v hn long m h bytes_word (ap (λ (l : Layer). at_depth l 0) (bytes-layer n)))
      (fit-layers n v hn long (λ l o. is_twofold l ≡ is_twofold o) (λ l. refl) refl m)

  -- ---- with 5

  kind-alike : Alike (one_kind_at m v) v
  unfolding one_kind_at
  kind-alike =
      choose-keeps (λ (u : List ℕ). Alike u v) (is_twofold (layer_of v m)) (with_bytes v m) v
      (λ _. record {
        on = λ n _. ap (λ (l : Layer). l.on) (bytes-layer n);
        depth = λ n _. ap (λ (l : Layer). l.depth) (bytes-layer n);
      })
      (λ _. record { on = λ n _. refl; depth = λ n _. refl })

  kind-deep : (n : ℕ) → n < 8 → (d : ℕ) → one_kind_at m (with_depth v n d) ≡ with_depth (one_kind_at m v) n d
  unfolding with_bytes with_depth is_twofold
  kind-deep n hn d =
      sym (kind-trade (λ u. with_depth u n d) (first-trade (λ x. depth_word x d) bytes_word (bytes-depth d) n m v hn long)
      (ap is_twofold (with_depth-alike v n hn long d m)))

-- ---- with 2 and with 3

module _ (t : ℕ → Layer → Bool) (blind : (s : ℕ) (l : Layer) → t s (of_bytes l) ≡ t s l) where
  off-kind : (n m : ℕ) (v : List ℕ) → n < 8 → m < 8 → Long v → off_by t n (one_kind_at m v) ≡ one_kind_at m (off_by t n v)
  unfolding with_off with_bytes is_twofold
  off-kind n m v hn hm long = kind-trade m v hm long (off_by t n) (rw sees (go (t (get_or v 1 0) (layer_of v n))))
      (choose-keeps (λ (u : List ℕ). is_twofold (layer_of u m) ≡ is_twofold (layer_of v m)) (t (get_or v 1 0) (layer_of v n)) _ v
      (λ _. left) (λ _. refl))
    where
      sees : t (get_or (with_bytes v m) 1 0) (layer_of (with_bytes v m) n) ≡ t (get_or v 1 0) (layer_of v n)
      sees =
          sym (blind _ _) ∙ ap₂ t ((kept-bytes v m hm long).first 1 (omega arith)) (bytes-layer m v hm long n) ∙ blind _ _

      go : (b : Bool) → choose b (with_off (with_bytes v m) n) (with_bytes v m) ≡ with_bytes (choose b (with_off v n) v) m
      go true = first-trade off_word bytes_word bytes-off n m v hn long
      go false = refl

      left : is_twofold (layer_of (with_off v n) m) ≡ is_twofold (layer_of v m)
      left = ⊎_elim
          (λ (e : m ≡ n). rw e (ap is_twofold (with_off-same v n hn long)))
          (λ (ne : m ≡ n → ⊥). ap is_twofold ((kept_off v n hn long).other m ne))
          (same_or m n)

  offs-kind : (w : List ℕ) → Long w → run 0 8 (off_by t) (one_kind w) ≡ one_kind (run 0 8 (off_by t) w)
  unfolding one_kind
  offs-kind = trade-turns Long 8 (off_by t) one_kind_at (long-off t) kind-long off-kind

-- ---- of words

pub kinds-one : (w : List ℕ) → Long w → cleared (one_kind w) ≡ one_kind (cleared w)
unfolding one_kind
kinds-one = trade-step Long 8 one_kind_at kind-long cleared clear-kind

pub kinds-two : (w : List ℕ) → Long w → empties_off (one_kind w) ≡ one_kind (empties_off w)
unfolding empties_off empty_off is_empty
kinds-two = offs-kind (λ s l. is_empty l) (λ s l. refl)

pub kinds-three : (w : List ℕ) → Long w → larges_off (one_kind w) ≡ one_kind (larges_off w)
unfolding larges_off large_off is_large
kinds-three = offs-kind (λ s l. is_large (low_of s) (high_of s) l) (λ s l. refl)

pub kinds-four : (w : List ℕ) → Long w → fit (one_kind w) ≡ one_kind (fit w)
unfolding fit one_kind
kinds-four = trade-turns Long 8 fit_at one_kind_at fit-long kind-long (λ n m v hn hm l. fit-kind m v hm l n hn)

pub kinds-five : (w : List ℕ) → Long w → spread (one_kind w) ≡ one_kind (spread w)
unfolding one_kind
kinds-five = spread-turns one_kind_at (λ m v h l. (kind-long m v h l, kind-alike m v h l, kind-deep m v h l))

-- so the words are mended by K4's own steps, and then bit 2 is cleared where bit 1 is set too
pub mend-kinds-last : (w : List ℕ) → mend_of w ≡ one_kind (spread (fit (larges_off (empties_off (cleared w)))))
unfolding mend_of placed cleared empties_off empty_off larges_off large_off fit
mend-kinds-last w =
    let c : Long (cleared w) = length-tab 52 (cleared_at w) in
    let e : Long (empties_off (cleared w)) = all-long empty_off (long-off (λ s l. is_empty l)) (cleared w) c in
    let l : Long (larges_off (empties_off (cleared w))) =
    all-long large_off (long-off (λ s l. is_large (low_of s) (high_of s) l)) (empties_off (cleared w)) e in
    let f : Long (fit (larges_off (empties_off (cleared w)))) =
    all-long fit_at fit-long (larges_off (empties_off (cleared w))) l in
    ap (λ (u : List ℕ). spread (fit (larges_off u))) (kinds-two (cleared w) c)
    ∙ ap (λ (u : List ℕ). spread (fit u)) (kinds-three (empties_off (cleared w)) e)
    ∙ ap spread (kinds-four (larges_off (empties_off (cleared w))) l)
    ∙ kinds-five (fit (larges_off (empties_off (cleared w)))) f
  where
    all-long : (f : ℕ → List ℕ → List ℕ) → ((n : ℕ) (v : List ℕ) → n < 8 → Long v → Long (f n v)) → (u : List ℕ)
        → Long u → Long (run 0 8 f u)
    all-long f h u l = run-hands (λ n. Long) 8 f u l h
