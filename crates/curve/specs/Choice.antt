-- The curve that is chosen while the program runs. Assumes nothing.
use Rattle.curve.specs.Shape.{Shape}
use Rattle.curve.specs.Containment.{containment}
use Rattle.curve.specs.HeldPoints.{held_shape}
use Rattle.curve.specs.declared.choice.AnyCurve.{AnyCurve}
use Rattle.curve.specs.declared.choice.AnyCurve.TheVariants.{Containment, Points}

-- It means what the chosen one means.
abbrev pub chosen_shape : AnyCurve → Shape
chosen_shape (Containment _) = containment
chosen_shape (Points c) = held_shape c
