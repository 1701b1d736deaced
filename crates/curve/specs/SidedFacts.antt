-- What the held contracts leave of a curve is again a curve.
use Rattle.std.specs.Prelude.{◌≡◌, ℕ, ℤ, pos, neg_ℤ, ◌≤ℤ◌}
use Rattle.std.proofs.Common.{ap, arith}
use Rattle.std.proofs.lemmas.Int.{ints, clamps}
use Rattle.curve.specs.Shape.{Shape, IsCurve, nominal}
use Rattle.curve.specs.Sides.{side, sided}
use Rattle.curve.specs.declared.one_sided.Sides.{Sides}
use Rattle.curve.specs.declared.one_sided.Sides.TheVariants.{Low, High, Both}

-- A side keeps the order, stays as near to 0, and keeps 0.
side_keeps_order : (held : Sides) (p q : ℤ) → p ≤ℤ q → side held p ≤ℤ side held q
side_keeps_order Low p q h = omega (arith, ints, clamps)
side_keeps_order High p q h = omega (arith, ints, clamps)
side_keeps_order Both p q h = h

side_keeps_least : (held : Sides) (n : ℕ) (p : ℤ) → neg_ℤ (pos n) ≤ℤ p → neg_ℤ (pos n) ≤ℤ side held p
side_keeps_least Low n p h = omega (arith, ints, clamps)
side_keeps_least High n p h = omega (arith, ints, clamps)
side_keeps_least Both n p h = h

side_keeps_most : (held : Sides) (n : ℕ) (p : ℤ) → p ≤ℤ pos n → side held p ≤ℤ pos n
side_keeps_most Low n p h = omega (arith, ints, clamps)
side_keeps_most High n p h = omega (arith, ints, clamps)
side_keeps_most Both n p h = h

side_keeps_zero : (held : Sides) (p : ℤ) → p ≡ pos 0 → side held p ≡ pos 0
side_keeps_zero Low p h = omega (arith, ints, clamps)
side_keeps_zero High p h = omega (arith, ints, clamps)
side_keeps_zero Both p h = h

pub sided_is_curve : (held : Sides) (s : Shape) → IsCurve s → IsCurve (sided held s)
sided_is_curve held s is = record {
  some_full = is.some_full;
  most_full = is.most_full;
  some_ramp = is.some_ramp;
  most_ramp = is.most_ramp;
  most_lag = is.most_lag;
  least_parts = λ f. side_keeps_least held s.full (s.parts f) (is.least_parts f);
  most_parts = λ f. side_keeps_most held s.full (s.parts f) (is.most_parts f);
  at_nominal = side_keeps_zero held (s.parts nominal) is.at_nominal;
  falls = λ f g h. side_keeps_order held (s.parts g) (s.parts f) (is.falls f g h);
  below = λ f h. ap (side held) (is.below f h);
  above = λ f h. ap (side held) (is.above f h);
}
