-- Block and curve lines, checked. Assumes nothing.
use Rattle.std.specs.Prelude.{◌≡◌, Some, None, Ok, Err, Result}
use Rattle.std.specs.Option.{option_map}
use Rattle.curve.specs.HeldPoints.{held_shape}
use Rattle.curve.specs.Loading.{refused_points}
use Rattle.curve.specs.Points.{points_shape}
use Rattle.curve.specs.declared.by_points.Points.{Points}
use Rattle.rules.specs.Terms.{handed_in}
use Rattle.rules.specs.TermsCheck.{refused_terms}
use Rattle.rules.specs.declared.terms.Terms.{Terms}
use Rattle.rules.specs.declared.terms_input.TermsInput.{TermsInput}
use Rattle.sheet.specs.Lines.{points_of}
use Rattle.sheet.specs.declared.curve_line.CurveLine.{CurveLine}
use Rattle.sheet.specs.declared.faults.Cause.{Cause}
use Rattle.sheet.specs.declared.faults.Cause.TheVariants.{Points as OfPoints, Terms as OfTerms}

-- The terms that a block line says, unless one of the refusals of terms fits: then the first of those is the cause.
abbrev pub CheckedBlock : TermsInput → Result Terms Cause → Type 0
CheckedBlock input (Ok terms) = (refused_terms input ≡ None) × (handed_in terms ≡ input)
CheckedBlock input (Err cause) = option_map OfTerms (refused_terms input) ≡ Some cause

-- The curve that a curve line says, unless one of the refusals of points fits: then the first of those is the cause.
abbrev pub CheckedCurve : CurveLine → Result Points Cause → Type 0
CheckedCurve line (Ok points) =
    (refused_points (points_of line) line.ramp line.lag ≡ None) × (held_shape points ≡ points_shape (points_of line) line.ramp line.lag)
CheckedCurve line (Err cause) = option_map OfPoints (refused_points (points_of line) line.ramp line.lag) ≡ Some cause
