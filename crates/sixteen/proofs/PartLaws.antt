-- Laws of `Part`, by which a loop over a run is proved. Assumes nothing.
use mathlib.Core.Path.{◌≡◌, refl, sym, ap, ◌∙◌}
use mathlib.Core.Logic.{⊎_elim}
use mathlib.Core.List.{List}
use Prim.Native.Nat.{ℕ, ◌+◌, ◌-◌, ◌*◌, ◌/◌, ◌%◌, ◌≤◌, ◌<◌}
use native.Mathlib.Omega.{arith}
use lib.ListN.{length, get_or, set, length-set}
use lib.Seq.{get_or-set_same, get_or-set_other, ext_get_or}
use Rattle.lists.specs.Tab.{tab, each}
use Rattle.lists.proofs.Choice.{split, meet}
use Rattle.lists.proofs.Tab.{is-tab, is-each}
use Rattle.sixteen.specs.Engine.Lanes.{Part, Reach, Front, anew}

-- ---- how a part begins and grows

pub part_none : (l : List ℕ) (g : ℕ → ℕ → ℕ) (a b : ℕ) → b ≤ a → Part l l g a b
part_none l g a b e = record {
  long = refl;
  new = λ i h1 h2. absurd (let z : ⊥ = omega arith in z);
  low = λ i h. refl;
  high = λ i h. refl;
}

-- a store at the part's end
pub part-set : {l l₀ : List ℕ} {g : ℕ → ℕ → ℕ} {a b m : ℕ} (j v : ℕ) → Part l l₀ g a b → a ≤ b → j ≡ b → m ≡ b + 1
    → j < length l₀ → v ≡ g j (get_or l₀ j 0) → Part (set l j v) l₀ g a m
part-set {l} {l₀} {g} {a} {b} {m} j v p ab at to lt e = record {
  long = length-set l j v ∙ p.long;
  new = λ i h1 h2. ⊎_elim
      (λ (lo : i < j). get_or-set_other l j i v 0 (λ (q : i ≡ j). omega arith) ∙ p.new i h1 (omega arith))
      (λ (ge : j ≤ i). let q : i ≡ j = omega arith in rw q (get_or-set_same l j v 0 (omega (arith, p.long)) ∙ e))
      (split i j);
  low = λ i h. get_or-set_other l j i v 0 (λ (q : i ≡ j). omega arith) ∙ p.low i h;
  high = λ i h. get_or-set_other l j i v 0 (λ (q : i ≡ j). omega arith) ∙ p.high i (omega arith);
}

-- what is as the rule says already is passed over
pub part-skip : {l l₀ : List ℕ} {g : ℕ → ℕ → ℕ} {a b : ℕ} (c : ℕ) → Part l l₀ g a b → b ≤ c
    → ((i : ℕ) → b ≤ i → i < c → g i (get_or l₀ i 0) ≡ get_or l₀ i 0) → Part l l₀ g a c
part-skip {l} {l₀} {g} {a} {b} c p bc h = record {
  long = p.long;
  new = λ i h1 h2. ⊎_elim
      (λ (lt : i < b). p.new i h1 lt)
      (λ (ge : b ≤ i). p.high i ge ∙ sym (h i ge h2))
      (split i b);
  low = p.low;
  high = λ i ge. p.high i (omega arith);
}

-- a part after a part
pub part_then : {r l l₀ : List ℕ} {g : ℕ → ℕ → ℕ} {a b c : ℕ} → Part l l₀ g a b → Part r l g b c → a ≤ b → b ≤ c
    → Part r l₀ g a c
part_then {r} {l} {l₀} {g} {a} {b} {c} p q ab bc = record {
  long = q.long ∙ p.long;
  new = λ i h1 h2. ⊎_elim
      (λ (lt : i < b). q.low i lt ∙ p.new i h1 lt)
      (λ (ge : b ≤ i). q.new i ge h2 ∙ ap (g i) (p.high i ge))
      (split i b);
  low = λ i lt. q.low i (omega arith) ∙ p.low i lt;
  high = λ i ge. q.high i ge ∙ p.high i (omega arith);
}

-- ---- the same part, said in another way

pub part-cong : {l l₀ : List ℕ} {g h : ℕ → ℕ → ℕ} {a b : ℕ} → Part l l₀ g a b
    → ((i : ℕ) → a ≤ i → i < b → g i (get_or l₀ i 0) ≡ h i (get_or l₀ i 0)) → Part l l₀ h a b
part-cong p e = record { long = p.long; new = λ i h1 h2. p.new i h1 h2 ∙ e i h1 h2; low = p.low; high = p.high }

-- a rule over one that goes by the index alone
pub part-over : {r l l₀ : List ℕ} {f : ℕ → ℕ} {g : ℕ → ℕ → ℕ} {a b : ℕ} → Part l l₀ (anew f) a b → Part r l g a b
    → Part r l₀ (anew (λ (i : ℕ). g i (f i))) a b
part-over {g = g} p q = record {
  long = q.long ∙ p.long;
  new = λ i h1 h2. q.new i h1 h2 ∙ ap (g i) (p.new i h1 h2);
  low = λ i h. q.low i h ∙ p.low i h;
  high = λ i h. q.high i h ∙ p.high i h;
}

pub part-to : {l l₀ : List ℕ} {g : ℕ → ℕ → ℕ} {a b c : ℕ} → Part l l₀ g a b → b ≡ c → Part l l₀ g a c
part-to p e = rw (← e) p

-- no two lists are the same part
pub part-unique : {l r l₀ : List ℕ} {g : ℕ → ℕ → ℕ} {a b : ℕ} → Part l l₀ g a b → Part r l₀ g a b → l ≡ r
part-unique {l} {r} {l₀} {g} {a} {b} p q = ext_get_or 0 l r (meet p.long q.long) (λ i h. ⊎_elim
    (λ (lo : i < a). meet (p.low i lo) (q.low i lo))
    (λ (ge : a ≤ i). ⊎_elim
    (λ (lt : i < b). meet (p.new i ge lt) (q.new i ge lt))
    (λ (end : b ≤ i). meet (p.high i end) (q.high i end))
    (split i b))
    (split i a))

-- ---- a loop over a run

pub reach-none : (l : List ℕ) (g : ℕ → ℕ → ℕ) (a : ℕ) → a ≤ length l → a % 4 ≡ 0 → Reach l l g a a
reach-none l g a h m = record { least = omega arith; most = h; border = m; part = part_none l g a a (omega arith) }

pub front-none : (l : List ℕ) (g : ℕ → ℕ → ℕ) → Front l l g 0
front-none l g = reach-none l g 0 (omega arith) refl

-- a turn goes on to c
pub reach-turn : {r l l₀ : List ℕ} {g : ℕ → ℕ → ℕ} {a b c : ℕ} → Reach l l₀ g a b → Part r l g b c → b ≤ c
    → c ≤ length l₀ → c % 4 ≡ 0 → Reach r l₀ g a c
reach-turn p q h m e =
    record { least = omega (arith, p.least); most = m; border = e; part = part_then p.part q p.least h }

-- as a loop has it, whose test compares i with the length n
module _ {l l₀ : List ℕ} {g : ℕ → ℕ → ℕ} {a i n : ℕ} (p : Reach l l₀ g a i) (e : length l₀ ≡ n) where
  pub block-turn : {r : List ℕ} → 64 ≤ n - i → Part r l g i (i + 64) → Reach r l₀ g a (i + 64)
  block-turn h q = reach-turn p q (omega arith) (omega arith) (omega (arith, p.border))

-- as a loop has it that counts the blocks or the pixels of a length n
module _ {l l₀ : List ℕ} {g : ℕ → ℕ → ℕ} {a k n : ℕ} where
  pub blocks-turn : {r : List ℕ} → Reach l l₀ g a (64 * k) → length l₀ ≡ n → k < n / 64
      → Part r l g (64 * k) (64 * k + 64) → Reach r l₀ g a (64 * (k + 1))
  blocks-turn p e h q =
      reach-turn p (part-to q (omega arith)) (omega arith) (omega arith) (omega arith)

  pub pixels-turn : {r : List ℕ} → Reach l l₀ g a (4 * k) → length l₀ ≡ n → k < n / 4
      → Part r l g (4 * k) (4 * k + 4) → Reach r l₀ g a (4 * (k + 1))
  pixels-turn p e h q =
      reach-turn p (part-to q (omega arith)) (omega arith) (omega arith) (omega arith)

-- ---- a whole run: its front, and then what is left of it

module _ {r l l₀ : List ℕ} {g : ℕ → ℕ → ℕ} {b : ℕ} (p : Front l l₀ g b) (q : Part r l g b (length l)) where
  pub whole : (i : ℕ) → i < length l₀ → get_or r i 0 ≡ g i (get_or l₀ i 0)
  whole i h = ⊎_elim
      (λ (lt : i < b). q.low i lt ∙ p.part.new i (omega arith) lt)
      (λ (ge : b ≤ i). q.new i ge (omega (arith, p.part.long)) ∙ ap (g i) (p.part.high i ge))
      (split i b)

  pub front-each : r ≡ each g l₀
  front-each = is-each l₀ r g (q.long ∙ p.part.long) whole

pub front-tab : {r l l₀ : List ℕ} {f : ℕ → ℕ} {b : ℕ} → Front l l₀ (anew f) b → Part r l (anew f) b (length l)
    → r ≡ tab (length l₀) f
front-tab {r} {l} {l₀} {f} p q = is-tab r (length l₀) f (q.long ∙ p.part.long) (whole p q)
