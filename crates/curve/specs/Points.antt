-- The curve that is given by points of deviation and parts. Assumes nothing.
use Rattle.std.specs.Prelude.{◌≡◌, ℕ, ◌+◌, ◌-◌, ◌*◌, ◌/◌, ◌<◌, ◌≤◌, true, cond, List, [], ◌∷◌, ℤ, pos, ◌≤ℤ◌, nat_le, unsigned_abs}
use Rattle.curve.specs.Shape.{Shape}
use Rattle.curve.specs.Deviations.{deviation, mirrored}
use Rattle.curve.specs.Loading.{rises, climbs, last_parts, full_parts}
use Rattle.curve.specs.declared.loading.Point.{Point}

-- A point's deviation and parts, neither of which is negative in accepted points.
abbrev pub at : Point → ℕ
at p = unsigned_abs p.deviation

abbrev pub height : Point → ℕ
height p = unsigned_abs p.parts

-- Parts on the straight line from one point to the next, the fraction dropped.
abbrev pub line : Point → Point → ℕ → ℕ
line p q d = height p + (height q - height p) * (d - at p) / (at q - at p)

-- Parts beyond a point: on the line to the next one up to it, and the last parts beyond the last.
abbrev pub beyond : Point → List Point → ℕ → ℕ
beyond p [] d = height p
beyond p (q ∷ qs) d = cond (nat_le d (at q)) (line p q d) (beyond q qs d)

-- Parts for a deviation of 0 and more: 0 up to the first point.
abbrev pub along : List Point → ℕ → ℕ
along [] d = 0
along (p ∷ ps) d = cond (nat_le d (at p)) 0 (beyond p ps d)

-- The curve of these points, ramp and lag; full is the last parts.
abbrev pub points_shape : List Point → ℤ → ℤ → Shape
points_shape points ramp lag = record {
  full = unsigned_abs (full_parts points);
  ramp = unsigned_abs ramp;
  lag = unsigned_abs lag;
  parts = λ f. mirrored (along points) (deviation f);
}

-- A point and the next one, of accepted points.
pub record Neighbours (p q : Point) : Type 0 where
  pub ahead : at p < at q
  pub near : at q ≤ 10000
  pub up : height p ≤ height q
  pub most : height q ≤ 1000000

-- A point and all that come after it, of accepted points.
pub record Onward (p : Point) (ps : List Point) : Type 0 where
  pub some_deviation : pos 0 ≤ℤ p.deviation
  pub some_parts : pos 0 ≤ℤ p.parts
  pub rise : rises p.deviation ps ≡ true
  pub climb : climbs p.parts ps ≡ true
  pub most : last_parts p.parts ps ≤ℤ pos 1000000
