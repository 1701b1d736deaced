-- What a points curve means. Assumes nothing.
use Rattle.std.specs.Prelude.{List}
use Rattle.basics.specs.Few.{items}
use Rattle.curve.specs.Shape.{Shape}
use Rattle.curve.specs.Points.{points_shape}
use Rattle.curve.specs.declared.loading.Point.{Point}
use Rattle.curve.specs.declared.by_points.Points.{Points}

-- The points that are held.
abbrev pub held_points : Points → List Point
held_points c = items c.points

-- The curve of the points, ramp and lag that are held.
abbrev pub held_shape : Points → Shape
held_shape c = points_shape (held_points c) c.ramp c.lag
