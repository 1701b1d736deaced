-- Checks in a stated order: the first that fails gives the refusal. Assumes nothing.
use Rattle.std.specs.Prelude.{Bool, cond, ◌&&◌, ℤ, Some, Option, int_le}

-- The fault, unless the test holds; then whatever the checks after it say.
abbrev pub unless : {F : Type 0} → Bool → F → Option F → Option F
unless holds fault rest = cond holds rest (Some fault)

-- A number from the first to the last, both of them included.
abbrev pub within : ℤ → ℤ → ℤ → Bool
within first last z = int_le first z && int_le z last
