-- Laws of `fade_of`: what holds of `fade_at` at any e holds of it. Assumes nothing.
use Rattle.std.proofs.Common.{◌≡◌, ℕ, ◌+◌, ◌-◌, ◌*◌, ◌/◌, ◌%◌, ◌^◌, ◌<◌, ◌≤◌, min, max, Bool, true, false, eqb, leb, refl, mul_comm, div-lt_iff_lt-mul, add-mul, le-div_iff_mul-le, arith, ne_eqb, le-leb, leb-false}
use borrow.Author.Tests.{lt-leb}
use Rattle.lists.specs.Choice.{pick, either}
use Rattle.mix.specs.Fade.{elapsed, negative, on_way, fade_at, fade_of}
use Rattle.mix.proofs.Parts.{parts-le, parts-ge}

-- ---- before, at and after its end, and with no length

pub fade_at-still : (v t e : ℕ) → fade_at v t 0 e ≡ v
unfolding fade_at
fade_at-still v t e = refl

pub fade_at-before : (v t L e : ℕ) → 2 ^ 31 ≤ e → fade_at v t L e ≡ v
unfolding fade_at
fade_at-before v t L e h = go (eqb L 0) (negative e) (le-leb _ _ h)
  where
    go : (z n : Bool) → n ≡ true → pick (either z n) v (pick (leb L e) t (on_way v t L e)) ≡ v
    go true n q = refl
    go false true q = refl
    go false false q = absurd (mathlib.Core.Bool.false≢true q)

pub fade_at-ended : (v t L e : ℕ) → 0 < L → L ≤ e → e < 2 ^ 31 → fade_at v t L e ≡ t
unfolding fade_at
fade_at-ended v t L e pos h n = rw (ne_eqb L 0 (λ q. omega arith), lt-leb (2 ^ 31) e n, le-leb L e h)

pub fade_at-way : (v t L e : ℕ) → e < L → e < 2 ^ 31 → fade_at v t L e ≡ on_way v t L e
unfolding fade_at
fade_at-way v t L e h n = rw (ne_eqb L 0 (λ q. omega arith), lt-leb (2 ^ 31) e n, lt-leb L e h)

-- ---- between the value and the target

pub way-sum-le : (v t L e m : ℕ) → e < L → v ≤ m → t ≤ m → v * (L - e) + t * e ≤ L * m
way-sum-le v t L e m h hv ht = omega (arith, parts-le e L t v m (omega arith) ht hv, mul_comm v (L - e), mul_comm t e)

pub way-le : (v t L e m : ℕ) → e < L → v ≤ m → t ≤ m → on_way v t L e ≤ m
way-le v t L e m h hv ht =
    let q : v * (L - e) + t * e + L / 2 < (m + 1) * L =
    omega (arith, way-sum-le v t L e m h hv ht, add-mul m 1 L, mul_comm L m) in
    let r : on_way v t L e < m + 1 = (div-lt_iff_lt-mul {k = L} (omega arith)).1 q in omega arith

way-ge : (v t L e m : ℕ) → e < L → m ≤ v → m ≤ t → m ≤ on_way v t L e
way-ge v t L e m h hv ht =
    let p : L * m ≤ e * t + (L - e) * v = parts-ge e L t v m (omega arith) ht hv in
    let q : m * L ≤ v * (L - e) + t * e + L / 2 = omega (arith, mul_comm v (L - e), mul_comm t e, mul_comm L m) in
    (le-div_iff_mul-le {k = L} (omega arith)).1 q

-- what holds of the value, of the target and of every place on the way holds of the fade
fade_at-keeps : (P : ℕ → Type 0) (v t L e : ℕ) → P v → P t → (e < L → P (on_way v t L e)) → P (fade_at v t L e)
unfolding fade_at
fade_at-keeps P v t L e hv ht hw = go (either (eqb L 0) (negative e)) (leb L e) (leb-false L e)
  where
    go : (a b : Bool) → (b ≡ false → e < L) → P (pick a v (pick b t (on_way v t L e)))
    go true b h = hv
    go false true h = ht
    go false false h = hw (h refl)

pub fade_of-le : (v t L start frame m : ℕ) → v ≤ m → t ≤ m → fade_of v t L start frame ≤ m
unfolding fade_of
fade_of-le v t L start frame m hv ht =
    fade_at-keeps (λ (z : ℕ). z ≤ m) v t L _ hv ht (λ h. way-le v t L _ m h hv ht)

pub fade_of-ge : (v t L start frame m : ℕ) → m ≤ v → m ≤ t → m ≤ fade_of v t L start frame
unfolding fade_of
fade_of-ge v t L start frame m hv ht =
    fade_at-keeps (λ (z : ℕ). m ≤ z) v t L _ hv ht (λ h. way-ge v t L _ m h hv ht)

pub fade_of-between : (v t L start frame : ℕ)
    → (min v t ≤ fade_of v t L start frame) × (fade_of v t L start frame ≤ max v t)
fade_of-between v t L start frame = (
  fade_of-ge v t L start frame (min v t) (omega arith) (omega arith),
  fade_of-le v t L start frame (max v t) (omega arith) (omega arith),
)

-- ---- the code's way to e

-- what `wrapping_sub_u32` ensures
pub is-elapsed : (frame start e : ℕ) → frame < 2 ^ 32 → start < 2 ^ 32 → e < 2 ^ 32 → (e + start) % 2 ^ 32 ≡ frame
    → elapsed frame start ≡ e
is-elapsed frame start e hf hs he q = omega arith
