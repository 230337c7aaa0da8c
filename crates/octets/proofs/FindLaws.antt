-- Where a byte first stands is what the library's search for it counts. Assumes nothing.
use Rattle.std.proofs.Common.{◌≡◌, ℕ, ◌+◌, List, length, nat_eq, cond, Bool, true, false, refl, arith}
use Rattle.std.specs.List.{position, position_or_len}
use Rattle.std.specs.Option.{unwrap_or}
use Rattle.std.proofs.lemmas.List.Recursion.{is_position_or_len}
use Rattle.std.proofs.lemmas.List.Sums.{prefix_len-le-length}
use Rattle.octets.specs.Bytes.{index_of, index_after}

index_after-is : (t : Bool) (n : ℕ) → index_after t n ≡ cond t 0 (1 + n)
unfolding index_after
index_after-is true n = refl
index_after-is false n = omega arith

pub index_of-is : (b : ℕ) (l : List ℕ) → index_of b l ≡ position_or_len (λ x. nat_eq x b) l
unfolding index_of
index_of-is b l =
    is_position_or_len (index_of b) (λ x. nat_eq x b) refl (λ x xs. index_after-is (nat_eq x b) (index_of b xs)) l

pub unwrap_or-position : (b : ℕ) (l : List ℕ)
    → unwrap_or (position (λ x. nat_eq x b) l) (length l) ≡ index_of b l
unwrap_or-position b l = rw (index_of-is b l) (grind (arith, prefix_len-le-length))
