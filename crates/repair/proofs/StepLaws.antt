-- Steps for layer after layer, each of which is a function's, are a run of it. Assumes nothing.
use mathlib.Core.Path.{◌≡◌}
use mathlib.Core.List.{List}
use Prim.Native.Nat.{ℕ, zero, suc, ◌+◌, ◌<◌}
use native.Mathlib.Omega.{arith}
use Rattle.lists.specs.Runs.{run}
use Rattle.repair.specs.Layers.{Steps}

-- where R allows f's step alone
module _ (R : ℕ → List ℕ → List ℕ → Type 0) (f : ℕ → List ℕ → List ℕ) (w : List ℕ) where
  -- after what the earlier steps came to
  pub steps-reached : (k : ℕ) (r : List ℕ) → Steps R k w r
      → ((n : ℕ) (r : List ℕ) → n < k → R n (run 0 n f w) r → r ≡ f n (run 0 n f w)) → r ≡ run 0 k f w
  unfolding run Steps
  steps-reached zero r s h = s
  steps-reached (suc k) r s h =
      let q : 0 + k ≡ k = omega arith in
      let e = steps-reached k s.0 s.1 (λ n v lt. h n v (omega arith)) in
      rw q (h k r (omega arith) (rw e at s.2))

  -- after anything
  pub steps_run : (k : ℕ) (r : List ℕ) → Steps R k w r → ((n : ℕ) (v r : List ℕ) → R n v r → r ≡ f n v) → r ≡ run 0 k f w
  steps_run k r s h = steps-reached k r s (λ n r lt. h n (run 0 n f w) r)
