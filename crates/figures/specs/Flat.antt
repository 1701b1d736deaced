-- The curve that calls for no response at any frequency. Assumes nothing.
use Rattle.std.specs.Prelude.{pos}
use Rattle.curve.specs.Shape.{Shape}

abbrev pub flat : Shape
flat = record { full = 1000; ramp = 250; lag = 1; parts = λ _. pos 0 }
