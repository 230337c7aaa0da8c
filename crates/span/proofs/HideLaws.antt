-- Runs that are opaque all along: pixels of one alpha behind others, and a front of opaque blocks that are laid over
-- a row of one colour. Assumes nothing.
use mathlib.Core.Path.{◌≡◌, ap, ◌∙◌}
use mathlib.Core.Bool.{false}
use mathlib.Core.Logic.{⊎_elim}
use mathlib.Core.List.{List}
use Prim.Native.Nat.{ℕ, ◌+◌, ◌-◌, ◌*◌, ◌/◌, ◌%◌, ◌≤◌, ◌<◌}
use native.Mathlib.Omega.{arith}
use lib.ListN.{length, get_or}
use Rattle.lists.proofs.Choice.{split}
use Rattle.sixteen.specs.Engine.Lanes.{Part, Front, Lanes, anew, AllAlpha, Bytes, PixelIs, SameIs, HalfIs, JoinIs}
use Rattle.sixteen.specs.Engine.Lanes.{store_byte}
use Rattle.colours.specs.Rows.{solid_byte}
use Rattle.span.specs.Engine.Laid.{lay_byte, Opaque, OpaqueAt}
use Rattle.span.proofs.GroundLaws.{lay-turn, lay-copied}

-- ---- pixels of one alpha

-- n more from b on, together k
pub alpha-then : {s : List ℕ} {at m n a : ℕ} (b k : ℕ) → AllAlpha s at m a → AllAlpha s b n a → b ≡ at + 4 * m
    → k ≡ m + n → AllAlpha s at k a
alpha-then {s} {at} {m} b k p q e f = record {
  all = λ j h. ⊎_elim
      (λ (lt : j < m). p.all j lt)
      (λ (ge : m ≤ j).
      let z : at + 4 * j + 3 ≡ b + 4 * (j - m) + 3 = omega arith in
      ap (λ (i : ℕ). get_or s i 0) z ∙ q.all (j - m) (omega arith))
      (split j m);
}

-- a front, and then the others
pub opaque-all : (s : List ℕ) (i : ℕ) → i ≤ length s → i % 4 ≡ 0 → length s % 4 ≡ 0 → AllAlpha s 0 (i / 4) 255
    → AllAlpha s i ((length s - i) / 4) 255 → Opaque s
opaque-all s i h m n p q = alpha-then i _ p q (omega arith) (omega arith)

-- ---- a front of opaque blocks

pub front-more : (over : List ℕ) (c0 c1 c2 : ℕ) {c : ℕ} {r l l₀ pw qw w hw : List ℕ} {i : ℕ}
    → Front l l₀ (anew (lay_byte over false 0 (solid_byte c0 c1 c2))) i → AllAlpha over 0 (i / 4) 255
    → length l₀ ≡ length over → OpaqueAt over i → Bytes c c0 c1 c2 255
    → Lanes pw 16 (PixelIs over i) → Lanes qw 16 (SameIs c) → Lanes w 16 (JoinIs pw qw) → Lanes hw 32 (HalfIs w)
    → Part r l (anew (store_byte hw i)) i (i + 64)
    → Front r l₀ (anew (lay_byte over false 0 (solid_byte c0 c1 c2))) (i + 64) × AllAlpha over 0 ((i + 64) / 4) 255
front-more over c0 c1 c2 {c = c} {i = i} p all e o b ep eq ew eh q = (
  lay-turn over false 0 c0 c1 c2 p e (omega (arith, o.fits)) b (lay-copied c i p.border over ep eq ew eh o.opaque q),
  alpha-then i _ all o.opaque (omega (arith, p.border)) (omega (arith, p.border)),
)
