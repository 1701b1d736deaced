-- Grace: the readings for which the bounds are as wide as the held contracts allow. Assumes nothing.
use Rattle.std.specs.Prelude.{ℕ, zero, suc, Bool, true, false, ◌||◌, List, [], ◌∷◌}
use Rattle.curve.specs.declared.one_sided.Sides.{Sides}
use Rattle.rules.specs.Flags.{brings_back}
use Rattle.rules.specs.declared.reading.Reading.{Reading}
use Rattle.bounds.specs.Window.{gap}

-- What opens grace: the block's first reading, a gap, and a flag change that brings a held contract back.
abbrev pub opens : Sides → Reading → List Reading → Bool
opens held r [] = true
opens held r (p ∷ h) = gap r (p ∷ h) || brings_back held p.flag r.flag

-- Some reading among the newest n opened grace.
abbrev pub opened : Sides → ℕ → List Reading → Bool
opened held zero h = false
opened held (suc n) [] = false
opened held (suc n) (r ∷ h) = opens held r h || opened held n h

-- Grace lasts lag + 1 readings, counting the one that opens it, and starts over if opened again.
abbrev pub grace : Sides → ℕ → List Reading → Bool
grace held lag h = opened held (suc lag) h
