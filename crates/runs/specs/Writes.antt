-- The register writes in a run of bytes: request K1. Assumes nothing.
use Rattle.std.specs.Prelude.{ℕ, zero, suc, ◌/◌, List, [], ◌∷◌, length, get_or, drop}
use Rattle.lists.specs.Little.{little_at}

-- a register and a value
pub record Write : Type 0 where
  pub register : ℕ
  pub value : ℕ

-- "A write is five bytes, register then little-endian value": the one that begins a run
abbrev pub write_in : List ℕ → Write
write_in run = record { register = get_or run 0 0; value = little_at run 1 }

-- the first n of a run
unfoldable pub first_writes : ℕ → List ℕ → List Write
first_writes zero run = []
first_writes (suc n) run = write_in run ∷ first_writes n (drop 5 run)

-- "fewer left at the end are no item"
unfoldable pub writes_in : List ℕ → List Write
writes_in run = first_writes (length run / 5) run
