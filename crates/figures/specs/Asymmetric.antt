-- A curve that is not symmetric: full below 49,500 mHz, and half of full the other way above 50,300 mHz. Assumes nothing.
use Rattle.std.specs.Prelude.{cond, ℤ, pos, negsuc, int_le, int_lt}
use Rattle.curve.specs.Shape.{Shape}

abbrev pub asymmetric_parts : ℤ → ℤ
asymmetric_parts f = cond (int_lt f (pos 49500)) (pos 1000) (cond (int_le f (pos 50300)) (pos 0) (negsuc 499))

abbrev pub asymmetric : Shape
asymmetric = record { full = 1000; ramp = 250; lag = 0; parts = asymmetric_parts }
