-- Products of money. Assumes nothing.
use Rattle.std.proofs.Common.{ℕ, ◌≤◌, ℤ, pos, ◌*ℤ◌, nat_abs, mul-le-mul, arith}
use Rattle.std.proofs.lemmas.Int.{unsigned_abs-mul}

pub product_small : (n : ℤ) (b : ℕ) → nat_abs n ≤ 100000000 → b ≤ 1000000 → nat_abs (n *ℤ pos b) ≤ 100000000000000
product_small n b h k = omega (arith, unsigned_abs-mul n (pos b), mul-le-mul h k)
