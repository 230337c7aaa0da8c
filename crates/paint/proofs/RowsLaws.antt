-- From lines to the whole output: byte i stands on line i / S of it, S = 4 W bytes a line, and that is line
-- `first` + i / S of the frame. Assumes nothing.
use mathlib.Core.Path.{◌≡◌, ◌∙◌}
use mathlib.Core.Bool.{Bool}
use mathlib.Core.Logic.{⊎_elim}
use mathlib.Core.List.{List, ◌++◌}
use Prim.Native.Nat.{ℕ, ◌+◌, ◌-◌, ◌*◌, ◌/◌, ◌%◌, ◌≤◌, ◌<◌}
use native.Mathlib.Nat.{add-mul, div-lt_iff_lt-mul}
use native.Mathlib.Omega.{arith}
use borrow.Author.Tests.{lt-ltb, le-ltb}
use lib.Arith.{digits_div, digits_mod}
use lib.ListN.{length, take, drop}
use Rattle.lists.specs.Tab.{each}
use Rattle.lists.proofs.Choice.{split, same_or}
use Rattle.lists.proofs.Digits.{row_room}
use Rattle.lists.proofs.Row.{on_row, on_row-here, on_row-other, row-part}
use Rattle.lists.proofs.Tab.{each-id, each-cong-below, each-then}
use Rattle.words.specs.Fields.{width_of}
use Rattle.frames.specs.Scene.{Scene}
use Rattle.frames.specs.Band.{band_byte}
use Rattle.frames.specs.Frame.{fill_byte}
use Rattle.frames.specs.Line.{line_len}
use Rattle.frames.proofs.LineLaws.{four}
use Rattle.plan.specs.declared.Part.{Part}
use Rattle.scanline.specs.Engine.Lines.{band_line}
use Rattle.paint.specs.Engine.Rows.{laid_byte, laid_line, rows_byte}

module _ (s : Scene) (part : Part) (fresh : Bool) (wide : 0 < width_of s.words) where
  byte-on : (k i p : ℕ) → i < 4 * width_of s.words
      → laid_byte s part fresh (k * (4 * width_of s.words) + i) p ≡ laid_line s part fresh (part.first + k) i p
  unfolding laid_byte laid_line band_byte band_line fill_byte
  byte-on k i p h =
      let W = width_of s.words in
      let y = part.first + k in
      let n = part.first * (4 * W) + (k * (4 * W) + i) in
      let e : n ≡ 4 * (y * W) + i = omega (arith, four part.first W, four k W, add-mul part.first k W) in
      let o : (k * (4 * W) + i) % 4 ≡ i % 4 = omega (arith, four k W) in
      let q : n % 4 ≡ i % 4 = omega arith in
      let r : n / 4 ≡ y * W + i / 4 = omega arith in
      let lt : i / 4 < W = omega arith in
      rw (q, r, o, digits_mod y {m = W} {r = i / 4} lt, digits_div y {m = W} {r = i / 4} lt)

  -- ---- one line more

  rows_more : (k i p : ℕ)
      → rows_byte s part fresh (k + 1) i p
      ≡ on_row (4 * width_of s.words) (laid_byte s part fresh) k i (rows_byte s part fresh k i p)
  unfolding rows_byte
  rows_more k i p =
      let S = 4 * width_of s.words in
      let f = laid_byte s part fresh in
      ⊎_elim
      (λ (e : i / S ≡ k). rw (lt-ltb (i / S) (k + 1) (omega arith), le-ltb (i / S) k (omega arith), on_row-here S f k i p e))
      (λ (ne : i / S ≡ k → ⊥). ⊎_elim
      (λ (lt : i / S < k). rw (lt-ltb (i / S) (k + 1) (omega arith), lt-ltb _ _ lt, on_row-other S f k i (f i p) ne))
      (λ (ge : k ≤ i / S). rw (le-ltb (i / S) (k + 1) (omega arith), le-ltb _ _ ge, on_row-other S f k i p ne))
      (split (i / S) k))
      (same_or (i / S) k)

  pub rows_none : (out : List ℕ) → out ≡ each (rows_byte s part fresh 0) out
  unfolding rows_byte
  rows_none out = each-id _ out (λ i p. rw (le-ltb (i / (4 * width_of s.words)) 0 (omega arith)))

  pub rows_next : (k : ℕ) (out line out₀ : List ℕ) → k * (4 * width_of s.words) + 4 * width_of s.words ≤ length out
      → out ≡ each (rows_byte s part fresh k) out₀
      → (let S = 4 * width_of s.words in line
      ≡ each (laid_line s part fresh (part.first + k)) (take (k * S + S - k * S) (drop (k * S) out))
      → take (k * S) out ++ (line ++ drop (k * S + S - k * S) (drop (k * S) out))
      ≡ each (rows_byte s part fresh (k + 1)) out₀)
  rows_next k out line out₀ fits e f =
      let S = 4 * width_of s.words in
      let q : k * S + S - k * S ≡ S = omega arith in
      each-then (rows_byte s part fresh k) (on_row S (laid_byte s part fresh) k) _ out₀ e
      (rw q
      (row-part S (laid_byte s part fresh) k out line (laid_line s part fresh (part.first + k)) (omega arith) fits (rw q at f)
      (λ i p h. byte-on k i p h)))
      (λ i p. rows_more k i p)

  pub rows_all : (y : ℕ) (out out₀ : List ℕ) → part.count ≤ y → length out₀ ≡ part.count * line_len s.words
      → out ≡ each (rows_byte s part fresh y) out₀
      → out ≡ each (laid_byte s part fresh) out₀
  unfolding rows_byte
  rows_all y out out₀ h long e =
      e ∙ each-cong-below _ _ out₀ (λ i lt.
      let S = 4 * width_of s.words in
      let k : i / S < part.count = (div-lt_iff_lt-mul {k = S} (omega arith)).1 (omega arith) in
      rw (lt-ltb (i / S) y (omega arith)))

  -- as the code has it, with the stride in a variable
  pub rows-lent : (S y : ℕ) (out line out₀ : List ℕ) → S ≡ 4 * width_of s.words → y * S + S ≤ length out
      → out ≡ each (rows_byte s part fresh y) out₀
      → line ≡ each (laid_line s part fresh (part.first + y)) (take (y * S + S - y * S) (drop (y * S) out))
      → take (y * S) out ++ (line ++ drop (y * S + S - y * S) (drop (y * S) out))
      ≡ each (rows_byte s part fresh (y + 1)) out₀
  rows-lent S y out line out₀ q fits e f = rw q (rows_next y out line out₀ (rw q at fits) e (rw q at f))

pub rows-room : (S y count W n : ℕ) → S ≡ 4 * W → y < count → n ≡ count * (4 * W) → y * S + S ≤ n
rows-room S y count W n q lt f = rw q (omega (arith, row_room y count (4 * W) lt))
