-- Colours over a run: one over the places of blocks or of a pixel, those of a line of indexes, and palettes. Assumes nothing.
use mathlib.Core.Path.{◌≡◌, refl, sym, ap, ◌∙◌}
use mathlib.Core.Bool.{Bool, true, false}
use mathlib.Core.Logic.{⊎_elim}
use mathlib.Core.List.{List, [], ◌∷◌}
use Prim.Native.Nat.{ℕ, ◌+◌, ◌-◌, ◌*◌, ◌/◌, ◌%◌, ◌≤◌, ◌<◌}
use native.Mathlib.Omega.{arith}
use lib.ListN.{length, get_or, set}
use borrow.Author.Tests.{eq-eqb, ne_eqb}
use Rattle.lists.specs.Choice.{pick}
use Rattle.lists.specs.Tab.{tab, each}
use Rattle.lists.proofs.Choice.{split}
use Rattle.lists.proofs.Tab.{length-tab, get_d-tab, get_d-each, is-each, each-cong-below}
use Rattle.mix.specs.Blend.{blend_of}
use Rattle.mix.proofs.BlendLaws.{blend_of-clear}
use Rattle.sixteen.specs.Engine.Lanes.{Part, Reach, Front, Lanes, anew, WordIs, PixelIs, SameIs, HighIs, HalfIs, JoinIs}
use Rattle.sixteen.specs.Engine.Lanes.{MixIs, store_byte}
use Rattle.colours.specs.Rows.{word_byte, colour_byte, colour_row, solid_byte, PaletteOf}
use Rattle.colours.specs.Engine.Indexes.{Same}
use Rattle.span.specs.Span.{over_byte}
use Rattle.span.specs.Engine.Laid.{Onward}
use Rattle.span.specs.Engine.Tints.{tint_byte, Blocks, AllSame, ColourIs, AlphaIs, Shown, Grounded}
use Rattle.sixteen.proofs.PartLaws.{part_none, part-skip, part-cong, part-to, reach-none, reach-turn, front-each}
use Rattle.sixteen.proofs.LaneLaws.{store_byte-even, store_byte-odd}
use Rattle.colours.proofs.RowLaws.{by_place, pixel_byte-at, pixel_byte-same}
use Rattle.colours.proofs.PixelLaws.{halves-byte}
use Rattle.span.proofs.OverParts.{alphas-own, mix-block, copy-block, pixel-part}
use Rattle.span.proofs.GroundLaws.{ground-words, ground-pixels}

-- ---- one colour

module _ (c : ℕ) (g : Bool) (a : ℕ) where
  pub tint-alpha : (i p : ℕ) → i % 4 ≡ 3 → tint_byte c g a i p ≡ p
  unfolding tint_byte
  tint-alpha i p h = simp (eq-eqb (i % 4) 3 h)

  pub tint-channel : (i p : ℕ) → i % 4 < 3 → tint_byte c g a i p ≡ blend_of (pick g a (c / 16777216)) (word_byte c i) p
  unfolding tint_byte
  tint-channel i p h = simp (ne_eqb (i % 4) 3 (λ z. omega arith))

  -- it goes by the place in the pixel
  pub tint-same : (i j p : ℕ) → i % 4 ≡ j % 4 → tint_byte c g a i p ≡ tint_byte c g a j p
  unfolding tint_byte
  tint-same i j p e = rw (e, pixel_byte-same _ _ _ _ i j e)

  -- a run that has the colour at this pixel
  pub tint-is : (over : List ℕ) (i p : ℕ) → get_or over (4 * (i / 4) + 3) 0 ≡ c / 16777216 → get_or over i 0 ≡ word_byte c i
      → over_byte over g a i p ≡ tint_byte c g a i p
  unfolding over_byte tint_byte
  tint-is over i p e f = rw (e, f)

-- the alpha's byte of a word
word-alpha : (c i : ℕ) → word_byte c (4 * (i / 4) + 3) ≡ c / 16777216
word-alpha c i = pixel_byte-at _ _ _ _ (4 * (i / 4) + 3) 3 (omega arith)

-- as a row of that colour
tint-row : (c : ℕ) (g : Bool) (a b i p : ℕ) → b % 4 ≡ 0 → i < b
    → over_byte (tab b (word_byte c)) g a i p ≡ tint_byte c g a i p
tint-row c g a b i p h lt =
    tint-is c g a (tab b (word_byte c)) i p
    (get_d-tab b (word_byte c) (4 * (i / 4) + 3) (omega arith) ∙ word-alpha c i) (get_d-tab b (word_byte c) i lt)

-- clear and opaque ones
pub tint-clear : (c i p : ℕ) → c / 16777216 ≡ 0 → tint_byte c false 0 i p ≡ p
tint-clear c i p e = ⊎_elim
    (λ (lt : i % 4 < 3). tint-channel c false 0 i p lt ∙ ap (λ (n : ℕ). blend_of n (word_byte c i) p) e
    ∙ blend_of-clear (word_byte c i) p)
    (λ (ge : 3 ≤ i % 4). tint-alpha c false 0 i p (omega arith))
    (split (i % 4) 3)

tint-own : (c a i p : ℕ) → c / 16777216 ≡ a → tint_byte c true a i p ≡ tint_byte c false 0 i p
unfolding tint_byte
tint-own c a i p e = rw e

-- ---- over blocks and a pixel

module _ (out : List ℕ) (c at : ℕ) (h : at % 4 ≡ 0) where
  abbrev row : List ℕ
  row = tab (at + 64) (word_byte c)

  mix-tint : {l p o al u w : List ℕ} → Lanes p 16 (SameIs c) → Lanes o 32 (HalfIs p) → Lanes al 32 (HighIs o)
      → Lanes u 32 (WordIs out at) → Lanes w 32 (MixIs al o u) → Part l out (anew (store_byte w at)) at (at + 64)
      → Part l out (tint_byte c false 0) at (at + 64)
  mix-tint ep eo ea eu ew q =
      let words = ground-words c at h ep eo in
      part-cong (mix-block out row false 0 at h words eu (alphas-own words ea) ew q)
      (λ i h1 h2. tint-row c false 0 (at + 64) i (get_or out i 0) (omega arith) h2)

  put-tint : {l p q w hw : List ℕ} → c / 16777216 ≡ 255 → Lanes p 16 (SameIs c) → Lanes q 16 (PixelIs out at)
      → Lanes w 16 (JoinIs p q) → Lanes hw 32 (HalfIs w) → Part l out (anew (store_byte hw at)) at (at + 64)
      → Part l out (tint_byte c false 0) at (at + 64)
  put-tint e ep eq ew eh q =
      part-cong (copy-block out row at h (ground-pixels c at h ep) eq ew eh q)
      (λ i h1 h2. tint-row c true 255 (at + 64) i (get_or out i 0) (omega arith) h2 ∙ tint-own c 255 i (get_or out i 0) e)

-- one more, as a loop has it that counts them
module _ (c : ℕ) {l₀ l : List ℕ} {a b k : ℕ} (s : Blocks (length l₀) a b)
    (p : Reach l l₀ (tint_byte c false 0) a (a + 64 * k)) (lt : k < (b - a) / 64) where
  more : (r : List ℕ) → Part r l (tint_byte c false 0) (a + 64 * k) (a + 64 * k + 64)
      → Reach r l₀ (tint_byte c false 0) a (a + 64 * (k + 1))
  more r q =
      reach-turn p (part-to q (omega arith)) (omega arith) (omega (arith, s.least, s.most)) (omega (arith, s.border))

  pub mix-more : {r pw o al u w : List ℕ} → Lanes pw 16 (SameIs c) → Lanes o 32 (HalfIs pw) → Lanes al 32 (HighIs o)
      → Lanes u 32 (WordIs l (a + 64 * k)) → Lanes w 32 (MixIs al o u)
      → Part r l (anew (store_byte w (a + 64 * k))) (a + 64 * k) (a + 64 * k + 64)
      → Reach r l₀ (tint_byte c false 0) a (a + 64 * (k + 1))
  mix-more ep eo ea eu ew q = more _ (mix-tint l c (a + 64 * k) p.border ep eo ea eu ew q)

  pub put-more : {r pw qw w hw : List ℕ} → c / 16777216 ≡ 255 → Lanes pw 16 (SameIs c)
      → Lanes qw 16 (PixelIs l (a + 64 * k)) → Lanes w 16 (JoinIs pw qw) → Lanes hw 32 (HalfIs w)
      → Part r l (anew (store_byte hw (a + 64 * k))) (a + 64 * k) (a + 64 * k + 64)
      → Reach r l₀ (tint_byte c false 0) a (a + 64 * (k + 1))
  put-more e ep eq ew eh q = more _ (put-tint l c (a + 64 * k) p.border e ep eq ew eh q)

pub clear-tint : (out : List ℕ) (c : ℕ) {n a b : ℕ} → Blocks n a b → c / 16777216 ≡ 0 → Part out out (tint_byte c false 0) a b
clear-tint out c {a = a} {b} k e =
    part-skip b (part_none out (tint_byte c false 0) a a (omega arith)) k.least (λ i h1 h2. tint-clear c i (get_or out i 0) e)

pub tint-pixel : (out : List ℕ) (c a i : ℕ) {r0 r1 r2 b0 b1 b2 : ℕ} → i % 4 ≡ 0 → i + 4 ≤ length out → a ≡ c / 16777216
    → b0 ≡ c % 256 → b1 ≡ c / 256 % 256 → b2 ≡ c / 65536 % 256
    → r0 ≡ blend_of a b0 (get_or out i 0) → r1 ≡ blend_of a b1 (get_or out (i + 1) 0) → r2 ≡ blend_of a b2 (get_or out (i + 2) 0)
    → Part (set (set (set out i r0) (i + 1) r1) (i + 2) r2) out (tint_byte c false 0) i (i + 4)
tint-pixel out c a i h b ea e0 e1 e2 f0 f1 f2 =
    part-cong
    (pixel-part out row a i h b (f0 ∙ ap (λ (n : ℕ). blend_of a n (get_or out i 0)) (e0 ∙ byte i 0 (omega arith) (omega arith)))
    (f1 ∙ ap (λ (n : ℕ). blend_of a n (get_or out (i + 1) 0)) (e1 ∙ byte (i + 1) 1 (omega arith) (omega arith)))
    (f2 ∙ ap (λ (n : ℕ). blend_of a n (get_or out (i + 2) 0)) (e2 ∙ byte (i + 2) 2 (omega arith) (omega arith))))
    (λ j h1 h2. tint-row c true a (i + 4) j (get_or out j 0) (omega arith) h2 ∙ tint-own c a j (get_or out j 0) (sym ea))
  where
    row : List ℕ
    row = tab (i + 4) (word_byte c)

    byte : (j k : ℕ) → j % 4 ≡ k → j < i + 4
        → get_or (c % 256 ∷ c / 256 % 256 ∷ c / 65536 % 256 ∷ c / 16777216 ∷ []) k 0 ≡ get_or row j 0
    byte j k e lt = sym (get_d-tab (i + 4) (word_byte c) j lt ∙ pixel_byte-at _ _ _ _ j k e)

-- ---- a line of indexes

-- a byte of it
pub tint-over : (line palette : List ℕ) (g : Bool) (a i p : ℕ) → i < 4 * length line
    → over_byte (colour_row line palette) g a i p ≡ tint_byte (get_or palette (get_or line (i / 4) 0 % 16) 0) g a i p
unfolding colour_byte
tint-over line palette g a i p lt =
    let c = get_or palette (get_or line (i / 4) 0 % 16) 0 in
    let q : (4 * (i / 4) + 3) / 4 ≡ i / 4 = omega arith in
    tint-is c g a (colour_row line palette) i p
    (get_d-tab (4 * length line) (colour_byte line palette) (4 * (i / 4) + 3) (omega arith) ∙ rw q (word-alpha c i))
    (get_d-tab (4 * length line) (colour_byte line palette) i lt)

module _ (line palette : List ℕ) (j : ℕ) (room : j + 16 ≤ length line) where
  abbrev indexed : List ℕ
  indexed = colour_row line palette

  sixteen-words : {p o : List ℕ} → Lanes p 16 (ColourIs line palette j) → Lanes o 32 (HalfIs p)
      → Lanes o 32 (WordIs indexed (4 * j))
  unfolding colour_byte
  sixteen-words {p} {o} ep eo = record {
    lane = λ k lt. record {
      low = sym (store_byte-even o (4 * j) k) ∙ byte (4 * j + 2 * k) (omega arith) (omega arith);
      high = sym (store_byte-odd o (4 * j) k) ∙ byte (4 * j + 2 * k + 1) (omega arith) (omega arith);
    };
  }
    where
      byte : (i : ℕ) → 4 * j ≤ i → i < 4 * j + 64 → store_byte o (4 * j) i ≡ get_or indexed i 0
      byte i h1 h2 =
          let q : j + (i - 4 * j) / 4 ≡ i / 4 = omega arith in
          halves-byte p o (4 * j) (omega arith) eo i h1 h2
          ∙ ap (λ (v : ℕ). word_byte v i) (ep.lane ((i - 4 * j) / 4) (omega arith)).is
          ∙ ap (λ (n : ℕ). word_byte (get_or palette (get_or line n 0 % 16) 0) i) q
          ∙ sym (get_d-tab (4 * length line) (colour_byte line palette) i (omega arith))

  pub sixteen-tint : {out l p o al u w : List ℕ} → Lanes p 16 (ColourIs line palette j) → Lanes o 32 (HalfIs p)
      → Lanes al 32 (HighIs o) → Lanes u 32 (WordIs out (4 * j)) → Lanes w 32 (MixIs al o u)
      → Part l out (anew (store_byte w (4 * j))) (4 * j) (4 * j + 64)
      → Part l out (over_byte indexed false 0) (4 * j) (4 * (j + 16))
  sixteen-tint {out = out} ep eo ea eu ew q =
      let words = sixteen-words ep eo in
      part-to (mix-block out indexed false 0 (4 * j) (omega arith) words eu (alphas-own words ea) ew q) (omega arith)

-- sixteen more that are one
pub same_more : {line : List ℕ} {a j x : ℕ} → AllSame line a j x → (j + 16 ≤ length line) × Same line j 16 x
    → AllSame line a (j + 16) x
same_more {line} {a} {j} {x} s q = record {
  least = omega (arith, s.least);
  most = q.0;
  sixteens = omega (arith, s.sixteens, s.least);
  same = record {
    all = λ k lt. ⊎_elim
        (λ (lo : k < j - a). s.same.all k lo)
        (λ (ge : j - a ≤ k). ap (λ (n : ℕ). get_or line n 0)
        (let z : a + k ≡ j + (k - (j - a)) = omega (arith, s.least) in z) ∙ q.1.all (k - (j - a)) (omega arith))
        (split k (j - a));
  };
}

pub same_none : {line : List ℕ} {a : ℕ} (x : ℕ) → a ≤ length line → AllSame line a a x
same_none x h = record {
  least = omega arith;
  most = h;
  sixteens = omega arith;
  same = record { all = λ k lt. absurd (let z : ⊥ = omega arith in z) };
}

-- from one index to a later one
pub indexes-on : {n : ℕ} {l l₀ : List ℕ} {g : ℕ → ℕ → ℕ} {j e : ℕ} → length l₀ ≡ 4 * n → j < e → e ≤ n
    → Part l l₀ g (4 * j) (4 * e) → Onward l l₀ g (4 * j) (4 * e)
indexes-on {l₀ = l₀} {g} {j} {e} long lt h q = record {
  reach = reach-turn (reach-none l₀ g (4 * j) (omega arith) (omega arith)) q (omega arith) (omega arith) (omega arith);
  some = omega arith;
}

-- one colour over places whose index is one
pub same-tint : (line palette : List ℕ) (j e x : ℕ) {l out : List ℕ} → AllSame line j e x
    → Part l out (tint_byte (get_or palette (x % 16) 0) false 0) (4 * j) (4 * e)
    → Part l out (over_byte (colour_row line palette) false 0) (4 * j) (4 * e)
same-tint line palette j e x {out = out} s q = part-cong q (λ i h1 h2.
    let z : j + (i / 4 - j) ≡ i / 4 = omega arith in
    ap (λ (y : ℕ). tint_byte (get_or palette (y % 16) 0) false 0 i (get_or out i 0))
    (sym (s.same.all (i / 4 - j) (omega arith)) ∙ ap (λ (n : ℕ). get_or line n 0) z)
    ∙ sym (tint-over line palette false 0 i (get_or out i 0) (omega (arith, s.most))))

-- a pixel more
pub pixel-more : (line palette : List ℕ) (j x : ℕ) {b : ℕ} {r l l₀ : List ℕ}
    → Reach l l₀ (over_byte (colour_row line palette) false 0) b (4 * j) → length l₀ ≡ 4 * length line → j < length line
    → Part r l (tint_byte (get_or palette x 0) false 0) (4 * j) (4 * j + 4) → x ≡ get_or line j 0 % 16
    → Reach r l₀ (over_byte (colour_row line palette) false 0) b (4 * (j + 1))
pixel-more line palette j x {l = l} p e h q ex =
    reach-turn p (part-to (part-cong q (λ i h1 h2. let d : j ≡ i / 4 = omega arith in
    ap (λ (n : ℕ). tint_byte (get_or palette n 0) false 0 i (get_or l i 0)) (ex ∙ ap (λ (n : ℕ). get_or line n 0 % 16) d)
    ∙ sym (tint-over line palette false 0 i (get_or l i 0) (omega arith)))) (omega arith))
    (omega arith) (omega arith) (omega arith)

-- a whole one, through a palette that has the alphas
pub shown-each : (line palette shown : List ℕ) (g : Bool) (a : ℕ) {r l l₀ : List ℕ} {b : ℕ} → Shown palette g a shown
    → length l₀ ≡ 4 * length line → Front l l₀ (over_byte (colour_row line shown) false 0) b
    → Part r l (over_byte (colour_row line shown) false 0) b (length l) → r ≡ each (over_byte (colour_row line palette) g a) l₀
shown-each line palette shown g a {l₀ = l₀} k e p q =
    front-each p q ∙ each-cong-below _ _ l₀ (λ i lt.
    tint-over line shown false 0 i (get_or l₀ i 0) (omega arith)
    ∙ k.over (get_or line (i / 4) 0 % 16) i (get_or l₀ i 0) (omega arith)
    ∙ sym (tint-over line palette g a i (get_or l₀ i 0) (omega arith)))

-- through one that lies over a row of one colour
pub grounded-each : (line palette laid : List ℕ) (g : Bool) (a c0 c1 c2 n : ℕ) → Grounded palette g a c0 c1 c2 laid
    → n ≡ 4 * length line
    → tab n (colour_byte line laid) ≡ each (over_byte (colour_row line palette) g a) (tab n (solid_byte c0 c1 c2))
unfolding colour_byte
grounded-each line palette laid g a c0 c1 c2 n k e = is-each _ _ _ (length-tab _ _ ∙ sym (length-tab _ _)) (λ i lt.
    let h : i < n = omega (arith, length-tab n (solid_byte c0 c1 c2)) in
    get_d-tab n (colour_byte line laid) i h ∙ k.bytes (get_or line (i / 4) 0 % 16) i (omega arith)
    ∙ sym (tint-over line palette g a i (solid_byte c0 c1 c2 i) (omega arith))
    ∙ ap (over_byte (colour_row line palette) g a i) (sym (get_d-tab n (solid_byte c0 c1 c2) i h)))

-- ---- palettes

pub palette-bytes : {palette h bytes b₀ : List ℕ} → Lanes h 32 (HalfIs palette) → Part bytes b₀ (anew (store_byte h 0)) 0 (0 + 64)
    → PaletteOf palette bytes
palette-bytes {palette} {h} eh q = record {
  bytes = λ i lt. sym (q.new i (omega arith) lt ∙ halves-byte palette h 0 (omega arith) eh i (omega arith) lt
      ∙ ap (λ (n : ℕ). word_byte (get_or palette n 0) i) (let z : (i - 0) / 4 ≡ i / 4 = omega arith in z));
}

shown-own : (palette : List ℕ) (a : ℕ) → Shown palette false a palette
unfolding tint_byte
shown-own palette a = record { over = λ x i p h. refl }

-- a word with another alpha
alpha-tint : (c a v i p : ℕ) → a < 256 → v ≡ c % 16777216 + a * 16777216 → tint_byte v false 0 i p ≡ tint_byte c true a i p
alpha-tint c a v i p h e = ⊎_elim
    (λ (lt : i % 4 < 3). tint-channel v false 0 i p lt
    ∙ ap (λ (n : ℕ). blend_of n (word_byte v i) p) (let q : v / 16777216 ≡ a = omega arith in q)
    ∙ ap (λ (n : ℕ). blend_of a n p) (byte lt)
    ∙ sym (tint-channel c true a i p lt))
    (λ (ge : 3 ≤ i % 4). tint-alpha v false 0 i p (omega arith) ∙ sym (tint-alpha c true a i p (omega arith)))
    (split (i % 4) 3)
  where
    byte : i % 4 < 3 → word_byte v i ≡ word_byte c i
    byte lt =
        pixel_byte-at _ _ _ _ i (i % 4) refl
        ∙ by_place (λ (r : ℕ). r < 3 → get_or (v % 256 ∷ v / 256 % 256 ∷ v / 65536 % 256 ∷ v / 16777216 ∷ []) r 0
        ≡ get_or (c % 256 ∷ c / 256 % 256 ∷ c / 65536 % 256 ∷ c / 16777216 ∷ []) r 0)
        (λ z. omega arith) (λ z. omega arith) (λ z. omega arith) (λ z. absurd (let q : ⊥ = omega arith in q)) (i % 4) (omega arith) lt
        ∙ sym (pixel_byte-at _ _ _ _ i (i % 4) refl)

shown-all : {palette shown : List ℕ} {a : ℕ} → a < 256 → Lanes shown 16 (AlphaIs palette a) → Shown palette true a shown
shown-all {palette} {shown} {a} h e = record {
  over = λ x i p lt. alpha-tint (get_or palette x 0) a (get_or shown x 0) i p h (e.lane x lt).is;
}

-- as the code has it
pub shown-global : {palette shown : List ℕ} {a : ℕ} (g : Bool) → g ≡ true → a < 256 → Lanes shown 16 (AlphaIs palette a)
    → Shown palette g a shown
shown-global g e h q = rw e (shown-all h q)

pub shown-none : (palette : List ℕ) (a : ℕ) (g : Bool) → g ≡ false → Shown palette g a palette
shown-none palette a g e = rw e (shown-own palette a)

-- the bytes of a palette, laid over a row of one colour, as a palette
pub grounded-is : (palette own row laid : List ℕ) (g : Bool) (a c0 c1 c2 : ℕ) → PaletteOf palette own
    → row ≡ each (over_byte own g a) (tab 64 (solid_byte c0 c1 c2)) → PaletteOf laid row → Grounded palette g a c0 c1 c2 laid
grounded-is palette own row laid g a c0 c1 c2 po e pl = record {
  bytes = λ x i h.
      let j = 4 * x + i % 4 in
      let q : i % 4 ≡ j % 4 = omega arith in
      let d : j / 4 ≡ x = omega arith in
      let c = get_or palette x 0 in
      pixel_byte-same _ _ _ _ i j q
      ∙ ap (λ (n : ℕ). word_byte (get_or laid n 0) j) (sym d)
      ∙ pl.bytes j (omega arith)
      ∙ ap (λ (l : List ℕ). get_or l j 0) e
      ∙ get_d-each (over_byte own g a) (tab 64 (solid_byte c0 c1 c2)) j (omega (arith, length-tab 64 (solid_byte c0 c1 c2)))
      ∙ ap (over_byte own g a j) (get_d-tab 64 (solid_byte c0 c1 c2) j (omega arith))
      ∙ tint-is c g a own j (solid_byte c0 c1 c2 j)
      (sym (po.bytes (4 * (j / 4) + 3) (omega arith))
      ∙ ap (λ (n : ℕ). word_byte (get_or palette n 0) (4 * (j / 4) + 3)) (let z : (4 * (j / 4) + 3) / 4 ≡ x = omega arith in z)
      ∙ word-alpha c j)
      (sym (po.bytes j (omega arith)) ∙ ap (λ (n : ℕ). word_byte (get_or palette n 0) j) d)
      ∙ tint-same c g a j i _ (sym q)
      ∙ ap (tint_byte c g a i) (pixel_byte-same _ _ _ _ j i (sym q));
}
