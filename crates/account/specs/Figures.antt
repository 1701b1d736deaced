-- The twelve worked figures that are shown of the definitions: seven of containment, four factors and one earning.
-- Assumes nothing.
use Rattle.curve.specs.Figures as curve
use Rattle.factors.specs.Figures as factors

abbrev pub TheTwelveFigures : Type 0
TheTwelveFigures = curve.Figures × factors.WorkedFigures
