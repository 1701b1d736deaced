-- Errors of a response against its bounds. Figures in kW are not rounded: they stand in whole numbers of kW times full.
-- Assumes nothing.
use Rattle.std.specs.Prelude.{ℕ, ◌*◌, ◌/◌, cond, ◌&&◌, List, ℤ, pos, ◌-ℤ◌, ◌*ℤ◌, Some, None, Option, int_lt, unsigned_abs}
use Rattle.std.specs.Int.{int_max, int_min}
use Rattle.curve.specs.Shape.{Shape}
use Rattle.curve.specs.declared.one_sided.Sides.{Sides}
use Rattle.curve.specs.declared.one_sided.Sides.TheVariants.{Low as low_alone, High as high_alone, Both}
use Rattle.rules.specs.Flags.{available}
use Rattle.rules.specs.Terms.{quantity, holds, sides}
use Rattle.rules.specs.declared.reading.Reading.{Reading}
use Rattle.rules.specs.declared.terms.Contract.{Contract}
use Rattle.rules.specs.declared.terms.Contract.TheVariants.{Low, High}
use Rattle.rules.specs.declared.terms.Terms.{Terms}
use Rattle.bounds.specs.Bounds.{bounds}

-- Parts in kW times full: the low quantity counts for parts of 0 or more, the high quantity for negative parts.
abbrev pub kilowatts : Terms → ℤ → ℤ
kilowatts t parts = parts *ℤ cond (int_lt parts (pos 0)) (pos (1000 * quantity t High)) (pos (1000 * quantity t Low))

abbrev pub in_kilowatts : Terms → ℤ × ℤ → ℤ × ℤ
in_kilowatts t b = (kilowatts t b.0, kilowatts t b.1)

-- Response is power less baseline; in kW times full.
abbrev pub response : ℕ → Reading → ℤ
response full r = (r.power -ℤ r.baseline) *ℤ pos full

-- What counts for a contract: if both are held, the low error has negatives replaced by 0 and the high error positives.
abbrev pub share : Sides → Contract → ℤ → ℤ
share low_alone c z = z
share high_alone c z = z
share Both Low z = int_max z (pos 0)
share Both High z = int_min z (pos 0)

-- The distance outside the bounds, lower first, and 0 inside.
abbrev pub outside : ℤ × ℤ → ℤ → ℕ
outside b x = cond (int_lt x b.0) (unsigned_abs (b.0 -ℤ x)) (cond (int_lt b.1 x) (unsigned_abs (x -ℤ b.1)) 0)

-- How far a response lies outside bounds that are in kW times full, as it counts for a contract.
abbrev pub distance : Terms → ℕ → Contract → ℤ × ℤ → Reading → ℕ
distance t full c b r = outside (share (sides t) c b.0, share (sides t) c b.1) (share (sides t) c (response full r))

-- In millionths of the contracted quantity, which is in MW; the fraction is dropped.
abbrev pub scaled : ℕ → ℕ → ℕ → ℕ
scaled full mw distance = distance * 1000000 / (mw * 1000 * full)

-- The error of a contract at a reading, against bounds in kW times full: none where the contract is not held or not
-- available at this reading. Where there is one, the reading is judged for the contract.
abbrev pub error : Terms → ℕ → Contract → ℤ × ℤ → Reading → Option ℕ
error t full c b r =
    cond (holds t c && available c r.flag)
    (Some (scaled full (quantity t c) (distance t full c b r)))
    None

-- The error of a contract at a reading after a history.
abbrev pub error_at : Terms → Shape → Contract → Reading → List Reading → Option ℕ
error_at t s c r h = error t s.full c (in_kilowatts t (bounds (sides t) s r h)) r
