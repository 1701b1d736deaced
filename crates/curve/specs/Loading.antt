-- Which points, ramp and lag a points curve accepts, and why it refuses others. Assumes nothing.
use Rattle.std.specs.Prelude.{ℕ, Bool, true, not, ◌&&◌, List, [], ◌∷◌, length, ℤ, pos, negsuc, is_some, None, Option, int_le, int_lt, nat_le}
use Rattle.basics.specs.Check.{unless, within}
use Rattle.curve.specs.declared.loading.Point.{Point}
use Rattle.curve.specs.declared.loading.PointsFault.{PointsFault}
use Rattle.curve.specs.declared.loading.PointsFault.TheVariants.{Count, Deviation, Parts, Ramp, Lag}

-- 2 to 8 points.
abbrev pub countable : ℕ → Bool
countable n = nat_le 2 n && nat_le n 8

-- A deviation is 0 to 10,000 mHz, and above the one before.
abbrev pub follows : ℤ → ℤ → Bool
follows before deviation = within (pos 0) (pos 10000) deviation && int_lt before deviation

-- Each deviation follows the one before.
abbrev pub rises : ℤ → List Point → Bool
rises before [] = true
rises before (p ∷ ps) = follows before p.deviation && rises p.deviation ps

-- No deviation stands before the first, which may be 0.
abbrev pub rising : List Point → Bool
rising points = rises (negsuc 0) points

-- No parts are below the ones before.
abbrev pub climbs : ℤ → List Point → Bool
climbs before [] = true
climbs before (p ∷ ps) = int_le before p.parts && climbs p.parts ps

-- The last parts, after these.
abbrev pub last_parts : ℤ → List Point → ℤ
last_parts before [] = before
last_parts before (p ∷ ps) = last_parts p.parts ps

-- The parts of the last point: the points curve's full.
abbrev pub full_parts : List Point → ℤ
full_parts points = last_parts (pos 0) points

-- The first parts are 0.
abbrev pub starts : List Point → Bool
starts [] = true
starts (p ∷ ps) = within (pos 0) (pos 0) p.parts

-- The first parts are 0, none are below the ones before, and the last are 1 to 1,000,000.
abbrev pub climbing : List Point → Bool
climbing points = starts points && (climbs (pos 0) points && within (pos 1) (pos 1000000) (full_parts points))

-- The first fault, in this order.
abbrev pub refused_points : List Point → ℤ → ℤ → Option PointsFault
refused_points points ramp lag =
    unless (countable (length points)) Count
    (unless (rising points) Deviation
    (unless (climbing points) Parts
    (unless (within (pos 1) (full_parts points) ramp) Ramp
    (unless (within (pos 0) (pos 10) lag) Lag
    None))))

-- Points, a ramp and a lag without a fault.
abbrev pub accepted : List Point → ℤ → ℤ → Bool
accepted points ramp lag = not (is_some (refused_points points ramp lag))

-- The number by which a fault is reported.
abbrev pub fault_number : PointsFault → ℕ
fault_number Count = 8
fault_number Deviation = 9
fault_number Parts = 10
fault_number Ramp = 11
fault_number Lag = 12
