-- A profile's bits a glyph pixel are one or two. Assumes nothing.
use Prim.Native.Nat.{ℕ, ◌<◌, ◌≤◌}
use native.Mathlib.Omega.{arith}
use Rattle.lists.proofs.Choice.{pick-keeps}
use Rattle.profiles.specs.declared.Profile.{Profile}
use Rattle.profiles.specs.Profile.{bits_of}

pub bits-some : (p : Profile) → 0 < bits_of p
bits-some p = pick-keeps (λ (n : ℕ). 0 < n) p.soft 2 1 (λ _. omega arith) (λ _. omega arith)

pub bits-few : (p : Profile) → bits_of p ≤ 2
bits-few p = pick-keeps (λ (n : ℕ). n ≤ 2) p.soft 2 1 (λ _. omega arith) (λ _. omega arith)
