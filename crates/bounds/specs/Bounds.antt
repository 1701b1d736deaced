-- The bounds within which a response has to lie, in parts. The curve is the one seen from the held contracts.
-- Assumes nothing.
use Rattle.std.specs.Prelude.{ℕ, Bool, cond, List, [], ◌∷◌, ℤ, pos, ◌+ℤ◌, ◌-ℤ◌, neg_ℤ}
use Rattle.std.specs.Int.{int_max, int_min}
use Rattle.curve.specs.Shape.{Shape}
use Rattle.curve.specs.declared.one_sided.Sides.{Sides}
use Rattle.curve.specs.declared.one_sided.Sides.TheVariants.{Low, High, Both}
use Rattle.rules.specs.declared.reading.Reading.{Reading}
use Rattle.bounds.specs.Window.{frequencies, lowest, highest}
use Rattle.bounds.specs.Grace.{grace}

-- The most and the least that the held contracts can ask for.
abbrev pub top : Sides → ℤ → ℤ
top Low full = full
top High full = pos 0
top Both full = full

abbrev pub bottom : Sides → ℤ → ℤ
bottom Low full = pos 0
bottom High full = neg_ℤ full
bottom Both full = neg_ℤ full

-- The raw bounds, lower first: in grace the widest, else the curve at the window's highest and at its lowest frequency.
abbrev pub raw : Sides → Shape → Bool → List ℤ → ℤ × ℤ
raw held s in_grace fs = cond in_grace (bottom held (pos s.full), top held (pos s.full)) (s.parts (highest fs), s.parts (lowest fs))

abbrev pub raw_bounds : Sides → Shape → List Reading → ℤ × ℤ
raw_bounds held s h = raw held s (grace held s.lag h) (frequencies s.lag h)

-- A bound closes in by at most the ramp a reading, and opens at once.
abbrev pub limited : ℕ → ℤ × ℤ → ℤ × ℤ → ℤ × ℤ
limited ramp last now = (int_min now.0 (last.0 +ℤ pos ramp), int_max now.1 (last.1 -ℤ pos ramp))

-- The bounds of a reading after a history, lower first: the first reading takes the raw ones.
abbrev pub bounds : Sides → Shape → Reading → List Reading → ℤ × ℤ
bounds held s r [] = raw_bounds held s (r ∷ [])
bounds held s r (p ∷ h) = limited s.ramp (bounds held s p h) (raw_bounds held s (r ∷ p ∷ h))
