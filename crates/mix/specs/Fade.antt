-- The alpha that a fade gives: 01 "Painting". Assumes nothing.
use Rattle.std.specs.Prelude.{ℕ, ◌+◌, ◌-◌, ◌*◌, ◌/◌, ◌%◌, ◌^◌, Bool, ◌==◌, nat_le}
use Rattle.lists.specs.Choice.{pick, either}

-- 01 "Painting": "e is frame number minus start modulo 2^32, read as signed". 2 ^ 32 is added first,
-- since ℕ's difference stops at 0.
abbrev pub elapsed : ℕ → ℕ → ℕ
elapsed frame start = (frame + 2 ^ 32 - start) % 2 ^ 32

-- read as signed, e is negative from 2 ^ 31 on
abbrev pub negative : ℕ → Bool
negative e = nat_le (2 ^ 31) e

-- "Otherwise (value·(L−e) + target·e + L/2)/L, both divisions rounded down."
abbrev pub on_way : ℕ → ℕ → ℕ → ℕ → ℕ
on_way value target L e = (value * (L - e) + target * e + L / 2) / L

-- "If the length is 0, or e is negative, the value is the word's own. If e is at least the length it
-- is the target. Otherwise ..": `on_way`.
unfoldable pub fade_at : ℕ → ℕ → ℕ → ℕ → ℕ
fade_at value target L e =
    pick (either (L == 0) (negative e)) value (pick (nat_le L e) target (on_way value target L e))

-- the same at a frame number
unfoldable pub fade_of : ℕ → ℕ → ℕ → ℕ → ℕ → ℕ
fade_of value target L start frame = fade_at value target L (elapsed frame start)
