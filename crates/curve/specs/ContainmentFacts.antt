-- Containment is a curve.
use Rattle.std.proofs.Common.{rules}
use Rattle.curve.specs.Shape.{IsCurve}
use Rattle.curve.specs.Containment.{containment}

pub containment_is_curve : IsCurve containment
containment_is_curve = search rules
