-- The board's way to divide a blend: 02 K6. No promise names it; the laws do. Assumes nothing.
use Rattle.std.specs.Prelude.{ℕ, ◌+◌, ◌-◌, ◌*◌, ◌/◌, ◌^◌}

-- what 01 "Painting" divides by 255: "a·over + (255−a)·under + 127"
abbrev pub dividend : ℕ → ℕ → ℕ → ℕ
dividend a over under = a * over + (255 - a) * under + 127

-- "The largest dividend is 65,152"
abbrev pub largest : ℕ
largest = 65152

-- "they add 1 and the number's own upper part (shifted by 8), ..
abbrev pub summed : ℕ → ℕ
summed t = t + 1 + t / 2 ^ 8

-- .. then shift by 8."
abbrev pub shifted : ℕ → ℕ
shifted t = summed t / 2 ^ 8
