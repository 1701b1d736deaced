-- The curve of Dynamic Containment, by pieces. Assumes nothing.
use Rattle.std.specs.Prelude.{ℕ, ◌+◌, ◌-◌, ◌*◌, cond, nat_le}
use Rattle.curve.specs.Shape.{Shape}
use Rattle.curve.specs.Deviations.{deviation, mirrored}

-- Containment's parts for a deviation of 0 and more, in mHz: none up to 15, then 60 for each mHz up to 200, then 703 for
-- each up to 500, then full.
abbrev pub pieces : ℕ → ℕ
pieces d =
    cond (nat_le d 15) 0
    (cond (nat_le d 200) (60 * (d - 15))
    (cond (nat_le d 500) (11100 + 703 * (d - 200)) 222000))

abbrev pub containment : Shape
containment = record { full = 222000; ramp = 22200; lag = 10; parts = λ f. mirrored pieces (deviation f) }
