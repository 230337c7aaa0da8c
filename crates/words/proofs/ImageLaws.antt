-- 52 words out of bytes: how many and how large they are, and that they are those whose bytes they were.
-- Assumes nothing.
use mathlib.Core.Path.{◌≡◌, sym, ◌∙◌}
use mathlib.Core.List.{List}
use Prim.Native.Nat.{ℕ, ◌+◌, ◌*◌, ◌^◌, ◌≤◌, ◌<◌}
use native.Mathlib.Omega.{arith}
use lib.ListN.{length, get_or}
use Rattle.lists.specs.Little.{little_at}
use Rattle.lists.specs.Bytes.{little_bytes}
use Rattle.lists.specs.Tab.{tab}
use Rattle.lists.proofs.Tab.{length-tab, tab-below, is-tab}
use Rattle.lists.proofs.Little.{word_back, little-fits}
use Rattle.words.specs.Image.{words_from}

pub words_long : (s : List ℕ) (o : ℕ) → length (words_from s o) ≡ 52
unfolding words_from
words_long s o = length-tab 52 (λ i. little_at s (o + 4 * i))

pub words-fit : (s : List ℕ) → ((i : ℕ) → get_or s i 0 < 256) → (o i : ℕ) → get_or (words_from s o) i 0 < 2 ^ 32
unfolding words_from
words-fit s b o =
    tab-below 52 (2 ^ 32) (λ i. little_at s (o + 4 * i)) (omega arith) (λ i. little-fits s b (o + 4 * i))

-- those from word k of a row on
pub words_back : (w u : List ℕ) (k n o : ℕ) → o ≡ 4 * k → 4 * k + 208 ≤ n → length u ≡ 52
    → ((i : ℕ) → get_or u i 0 < 2 ^ 32) → ((i : ℕ) → i < 52 → get_or u i 0 ≡ get_or w (k + i) 0)
    → u ≡ words_from (tab n (little_bytes w)) o
unfolding words_from
words_back w u k n o at b long h e =
    is-tab u 52 (λ i. little_at (tab n (little_bytes w)) (o + 4 * i)) long
    (λ i lt. let q : get_or w (k + i) 0 < 2 ^ 32 = rw (← e i lt) (h i) in
    e i lt ∙ sym (word_back w (k + i) n (o + 4 * i) (omega arith) (omega arith) q))
