-- A points curve is a curve, and so is whichever is chosen.
use Rattle.curve.specs.Shape.{IsCurve}
use Rattle.curve.specs.HeldPoints.{held_points, held_shape}
use Rattle.curve.specs.Choice.{chosen_shape}
use Rattle.curve.specs.declared.by_points.Points.{Points}
use Rattle.curve.specs.declared.choice.AnyCurve.{AnyCurve}
use Rattle.curve.specs.declared.choice.AnyCurve.TheVariants as chosen
use Rattle.curve.specs.ContainmentFacts.{containment_is_curve}
use Rattle.curve.specs.AcceptedPoints.{accepted_met}
use Rattle.curve.specs.PointsFacts.{met_is_curve}

pub held_is_curve : (c : Points) → IsCurve (held_shape c)
held_is_curve c = met_is_curve (held_points c) c.ramp c.lag (accepted_met (held_points c) c.ramp c.lag c.sound)

pub chosen_is_curve : (c : AnyCurve) → IsCurve (chosen_shape c)
chosen_is_curve (chosen.Containment _) = containment_is_curve
chosen_is_curve (chosen.Points c) = held_is_curve c
