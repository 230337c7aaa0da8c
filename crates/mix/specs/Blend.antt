-- The blend of one channel: 01 "Painting". Assumes nothing.
use Rattle.std.specs.Prelude.{ℕ, ◌+◌, ◌-◌, ◌*◌, ◌/◌}

-- 01 "Painting": "(a·over + (255−a)·under + 127) divided by 255, rounded down". ℕ's 255 - a stops
-- at 0; a is a byte wherever this is cited.
unfoldable pub blend_of : ℕ → ℕ → ℕ → ℕ
blend_of a over under = (a * over + (255 - a) * under + 127) / 255
