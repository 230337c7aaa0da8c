-- A picture behind those of lower number, and what the loop over the layers leaves. Assumes nothing.
use mathlib.Core.Path.{◌≡◌, refl, sym, ap, ap₂, ◌∙◌}
use mathlib.Core.Bool.{Bool, true, false}
use mathlib.Core.List.{List}
use Prim.Native.Nat.{ℕ, ◌+◌, ◌≤◌, ◌<◌}
use native.Mathlib.Omega.{arith}
use lib.ListN.{set, replicate}
use Rattle.lists.specs.Choice.{pick}
use Rattle.lists.specs.Runs.{sum_of}
use Rattle.lists.proofs.Sum.{sum-none, sum_step}
use Rattle.lists.proofs.Upto.{Upto, upto-none, upto-set, upto_done}
use Rattle.words.specs.declared.fields.Layer.{Layer}
use Rattle.words.specs.declared.pictures.Pictures.{Pictures}
use Rattle.words.specs.Fields.{layer_of}
use Rattle.words.specs.Pictures.{picture_len, picture_len_at, picture_start, pictures_len, start_at, pictures_of}
use Rattle.words.proofs.PictureLaws.{picture_len_at-le, picture_start-le, other-len}
use Rattle.order.specs.Engine.Found.{with_picture}

-- ---- one picture

abbrev pictures : List ℕ → ℕ → ℕ → Pictures
pictures l b f = record { starts = l; bytes = b; floats = f }

module _ (p : Pictures) (l : Layer) (n len : ℕ) (e : len ≡ picture_len l.floats l) where
  grown : (t : Bool) (b f : ℕ) → l.floats ≡ t → b ≡ p.bytes + picture_len false l → f ≡ p.floats + picture_len true l
      → pictures (set p.starts n (pick t p.floats p.bytes)) b f ≡ with_picture p l n
  grown t b f k x y =
      ap (λ (u : Bool). pictures (set p.starts n (pick u p.floats p.bytes)) b f) (sym k)
      ∙ ap₂ (pictures (set p.starts n (pick l.floats p.floats p.bytes))) x y

  pub picture-floats : l.floats ≡ true
      → pictures (set p.starts n p.floats) p.bytes (p.floats + len) ≡ with_picture p l n
  picture-floats f =
      let z : picture_len false l ≡ 0 = other-len false l (rw f) in
      let q : len ≡ picture_len true l = e ∙ ap (λ (t : Bool). picture_len t l) f in
      grown true _ _ f (omega arith) (omega arith)

  pub picture-bytes : l.floats ≡ false
      → pictures (set p.starts n p.bytes) (p.bytes + len) p.floats ≡ with_picture p l n
  picture-bytes f =
      let z : picture_len true l ≡ 0 = other-len true l f in
      let q : len ≡ picture_len false l = e ∙ ap (λ (t : Bool). picture_len t l) f in
      grown false _ _ f (omega arith) (omega arith)

-- ---- the loop

-- the starts below n are written, and the sums so far are the next
pub record StartsTo (w : List ℕ) (p : Pictures) (n : ℕ) : Type 0 where
  pub written : Upto p.starts (replicate 8 0) (start_at w) n
  pub bytes : p.bytes ≡ picture_start false w n
  pub floats : p.floats ≡ picture_start true w n

pub starts_none : (w : List ℕ) → StartsTo w (pictures (replicate 8 0) 0 0) 0
unfolding picture_start
starts_none w =
    record {
      written = upto-none _ _;
      bytes = sym (sum-none (picture_len_at false w));
      floats = sym (sum-none (picture_len_at true w));
    }

-- there is room for the next sum
pub starts-room : (w : List ℕ) (p : Pictures) (n : ℕ) (l : Layer) → n < 8 → StartsTo w p n → l ≡ layer_of w n
    → (p.bytes + picture_len l.floats l < 4294967296) × (p.floats + picture_len l.floats l < 4294967296)
unfolding picture_len_at
starts-room w p n l h s e =
    let k : picture_len (layer_of w n).floats (layer_of w n) ≤ 67076100 = picture_len_at-le (layer_of w n).floats w n in
    rw e (
      omega (arith, s.bytes, picture_start-le false w n (omega arith)),
      omega (arith, s.floats, picture_start-le true w n (omega arith)),
    )

next_start : (w : List ℕ) (p : Pictures) (n : ℕ) → StartsTo w p n
    → pick (layer_of w n).floats p.floats p.bytes ≡ start_at w n
unfolding start_at
next_start w p n s = go (layer_of w n).floats
  where
    go : (t : Bool) → pick t p.floats p.bytes ≡ picture_start t w n
    go true = s.floats
    go false = s.bytes

pub starts-next : (w : List ℕ) (p r : Pictures) (n : ℕ) (l : Layer) → n < 8 → StartsTo w p n → l ≡ layer_of w n
    → r ≡ with_picture p l n → StartsTo w r (n + 1)
unfolding picture_start picture_len_at
starts-next w p r n l h s e q =
    rw (q, e) record {
      written = upto-set n _ s.written refl refl h (next_start w p n s);
      bytes = ap (λ (x : ℕ). x + picture_len false (layer_of w n)) s.bytes ∙ sym (sum_step n (picture_len_at false w));
      floats = ap (λ (x : ℕ). x + picture_len true (layer_of w n)) s.floats ∙ sym (sum_step n (picture_len_at true w));
    }

pub starts-all : (w : List ℕ) (p : Pictures) (n : ℕ) → n ≤ 8 → 8 ≤ n → StartsTo w p n → p ≡ pictures_of w
unfolding picture_start pictures_len
starts-all w p n k m s =
    let e : n ≡ 8 = omega arith in
    ap (λ (l : List ℕ). pictures l p.bytes p.floats) (upto_done s.written (omega arith))
    ∙ ap₂ (pictures _) (s.bytes ∙ ap (λ (j : ℕ). sum_of j (picture_len_at false w)) e)
    (s.floats ∙ ap (λ (j : ℕ). sum_of j (picture_len_at true w)) e)
