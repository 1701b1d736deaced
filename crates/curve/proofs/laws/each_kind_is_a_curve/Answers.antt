use Rattle.curve.specs.ContainmentFacts.{containment_is_curve}
use Rattle.curve.specs.PointsFacts.{points_is_curve}
use Rattle.curve.specs.SidedFacts.{sided_is_curve}
use Rattle.curve.proofs.laws.each_kind_is_a_curve.Goals as goal

pub returns : goal.returns
returns c = record { containment = containment_is_curve; points = points_is_curve; sided = sided_is_curve }
