use Rattle.std.proofs.Common.{◌≡◌, ℤ, arith}
use Rattle.std.proofs.lemmas.Int.{ints, clamps}
use Rattle.bounds.proofs.limits.Bounds.limited.Goals as goal

pub invariant_of-result : goal.invariant_of-result
invariant_of-result g c = record { least = omega (arith, ints, clamps); most = omega (arith, ints, clamps) }

pub invariant_of-result-2 : goal.invariant_of-result-2
invariant_of-result-2 g c = record { least = omega (arith, ints, clamps); most = omega (arith, ints, clamps) }

both : (a b x y : ℤ) → a ≡ x → b ≡ y → ◌≡◌ {A = ℤ × ℤ} (a, b) (x, y)
both a b x y p q = cc

pub returns : goal.returns
returns g c = both _ _ _ _ (omega (arith, ints, clamps)) (omega (arith, ints, clamps))
