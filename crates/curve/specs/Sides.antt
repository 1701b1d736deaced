-- A curve seen from the contracts that are held: a low contract alone answers only low frequency, a high contract alone
-- only high frequency, both together the whole curve. Assumes nothing.
use Rattle.std.specs.Prelude.{ℤ, pos}
use Rattle.std.specs.Int.{int_max, int_min}
use Rattle.curve.specs.Shape.{Shape}
use Rattle.curve.specs.declared.one_sided.Sides.{Sides}
use Rattle.curve.specs.declared.one_sided.Sides.TheVariants.{Low, High, Both}

-- The parts that are told for those who hold these contracts.
abbrev pub side : Sides → ℤ → ℤ
side Low p = int_max p (pos 0)
side High p = int_min p (pos 0)
side Both p = p

abbrev pub sided : Sides → Shape → Shape
sided held s = record { full = s.full; ramp = s.ramp; lag = s.lag; parts = λ f. side held (s.parts f) }
