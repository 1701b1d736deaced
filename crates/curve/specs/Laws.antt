-- Each kind of curve is one, and what points tell. Assumes nothing.
use Rattle.std.specs.Prelude.{◌≡◌, ℕ, ◌<◌, ◌≤◌, List, [], ◌∷◌, ◌++◌, ℤ, None}
use Rattle.curve.specs.Shape.{Shape, IsCurve}
use Rattle.curve.specs.Sides.{sided}
use Rattle.curve.specs.Containment.{containment}
use Rattle.curve.specs.Loading.{refused_points}
use Rattle.curve.specs.Points.{at, height, line, along, points_shape}
use Rattle.curve.specs.declared.one_sided.Sides.{Sides}
use Rattle.curve.specs.declared.loading.Point.{Point}

abbrev pub ContainmentIsCurve : Type 0
ContainmentIsCurve = IsCurve containment

-- Points, a ramp and a lag that are not refused make a curve.
abbrev pub PointsAreCurves : Type 0
PointsAreCurves = (points : List Point) (ramp lag : ℤ) → refused_points points ramp lag ≡ None → IsCurve (points_shape points ramp lag)

-- A curve seen from the contracts that are held is again one.
abbrev pub SidedAreCurves : Type 0
SidedAreCurves = (held : Sides) (s : Shape) → IsCurve s → IsCurve (sided held s)

-- Accepted points tell 0 up to the first, the straight line between two neighbours, and the last parts past the last.
pub record JoinedByLines : Type 0 where
  pub up_to_first : (p : Point) (ps : List Point) (d : ℕ) → d ≤ at p → along (p ∷ ps) d ≡ 0
  pub between : (before : List Point) (p q : Point) (after : List Point) (ramp lag : ℤ)
      → refused_points (before ++ p ∷ q ∷ after) ramp lag ≡ None
      → (d : ℕ) → at p < d → d ≤ at q → along (before ++ p ∷ q ∷ after) d ≡ line p q d
  pub past_the_last : (before : List Point) (p : Point) (ramp lag : ℤ)
      → refused_points (before ++ p ∷ []) ramp lag ≡ None
      → (d : ℕ) → at p < d → along (before ++ p ∷ []) d ≡ height p
