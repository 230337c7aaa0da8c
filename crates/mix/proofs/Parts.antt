-- A mix of parts lies between what it is mixed from. Assumes nothing.
use Rattle.std.proofs.Common.{◌≡◌, ℕ, ◌+◌, ◌-◌, ◌*◌, ◌≤◌, ap, add-mul, mul-le-mul_left, arith}

-- a parts of x and n - a of y make up n: a * m + (n - a) * m = n * m
module _ (a n x y m : ℕ) (h : a ≤ n) where
  whole : a * m + (n - a) * m ≡ n * m
  whole =
      let q : a + (n - a) ≡ n = omega arith in
      omega (arith, add-mul a (n - a) m, ap (λ (k : ℕ). k * m) q)

  pub parts-le : x ≤ m → y ≤ m → a * x + (n - a) * y ≤ n * m
  parts-le hx hy = omega (arith, mul-le-mul_left a hx, mul-le-mul_left (n - a) hy, whole)

  pub parts-ge : m ≤ x → m ≤ y → n * m ≤ a * x + (n - a) * y
  parts-ge hx hy = omega (arith, mul-le-mul_left a hx, mul-le-mul_left (n - a) hy, whole)
