-- Deviations from nominal frequency, for curves that are told by them. Assumes nothing.
use Rattle.std.specs.Prelude.{ℕ, cond, ℤ, pos, ◌-ℤ◌, neg_ℤ, int_lt, unsigned_abs}
use Rattle.std.specs.Int.{int_max, int_min}
use Rattle.curve.specs.Shape.{nominal, lowest, highest}

-- How far the frequency is below nominal; beyond either end as at that end.
abbrev pub deviation : ℤ → ℤ
deviation f = nominal -ℤ int_max lowest (int_min f highest)

-- Parts with the sign of a deviation: positive below nominal, negative above it.
abbrev pub signed : ℤ → ℕ → ℤ
signed d parts = cond (int_lt d (pos 0)) (neg_ℤ (pos parts)) (pos parts)

-- What is told for a deviation, by what is told for deviations of 0 and more: below nominal that, above it its negative.
abbrev pub mirrored : (ℕ → ℕ) → ℤ → ℤ
mirrored told d = signed d (told (unsigned_abs d))
