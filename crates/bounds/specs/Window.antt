-- Gaps, and the window of a reading. A history is the list of accepted readings, the newest first. Assumes nothing.
use Rattle.std.specs.Prelude.{ℕ, zero, suc, Bool, false, cond, not, List, [], ◌∷◌, map, reverse, ℤ, pos, ◌+ℤ◌, Some, None, Option, int_lt}
use Rattle.std.specs.Option.{unwrap_or}
use Rattle.curve.specs.Shape.{nominal}
use Rattle.rules.specs.Check.{same}
use Rattle.rules.specs.Least.{least}
use Rattle.rules.specs.declared.reading.Reading.{Reading}

-- The newest reading of a history, if there is one.
abbrev pub newest : List Reading → Option Reading
newest [] = None
newest (r ∷ h) = Some r

-- A reading whose tick is one above that of the reading before it.
abbrev pub successive : Reading → Reading → Bool
successive p r = same r.tick (p.tick +ℤ pos 1)

-- A gap: a reading after the history whose tick is not one above the last accepted tick.
abbrev pub gap : Reading → List Reading → Bool
gap r [] = false
gap r (p ∷ h) = not (successive p r)

-- The newest reading and those before it, at most n in all, none older than the last gap; the newest first.
abbrev pub window : ℕ → List Reading → List Reading
window zero h = []
window (suc n) [] = []
window (suc n) (r ∷ h) = r ∷ cond (gap r h) [] (window n h)

-- The frequencies in the window of the newest reading: its own and those of up to lag readings before it, the oldest first.
abbrev pub frequencies : ℕ → List Reading → List ℤ
frequencies lag h = reverse (map (λ r. r.frequency) (window (suc lag) h))

-- The lowest and the highest of the frequencies in a window, which has at least one.
abbrev pub lowest : List ℤ → ℤ
lowest fs = unwrap_or (least int_lt fs) nominal

abbrev pub highest : List ℤ → ℤ
highest fs = unwrap_or (least (λ x y. int_lt y x) fs) nominal
