-- Two numbers that are the same. Assumes nothing.
use Rattle.std.specs.Prelude.{Bool, ◌&&◌, ℤ, int_le}

-- Neither is above the other.
abbrev pub same : ℤ → ℤ → Bool
same y z = int_le y z && int_le z y
