-- What can be said of bounds and errors in the subject's own words. Assumes nothing.
use Rattle.std.specs.Prelude.{◌≤◌, List, ◌∷◌, ℤ, pos, ◌-ℤ◌, ◌≤ℤ◌, unsigned_abs, Contains}
use Rattle.curve.specs.Shape.{Shape}
use Rattle.curve.specs.Sides.{sided}
use Rattle.curve.specs.declared.one_sided.Sides.{Sides}
use Rattle.rules.specs.declared.reading.Reading.{Reading}
use Rattle.rules.specs.declared.terms.Terms.{Terms}
use Rattle.bounds.specs.Bounds.{bounds, top, bottom}
use Rattle.bounds.specs.Errors.{kilowatts, response}
use Rattle.bounds.specs.Window.{frequencies}

-- On any curve and after any history: no pair of bounds has its lower above its upper, the pair stays within bottom and top,
-- and what the curve tells at any frequency of the window lies between the bounds.
pub record BoundsLaw (held : Sides) (s : Shape) : Type 0 where
  pub ordered : (r : Reading) (h : List Reading) → (bounds held (sided held s) r h).0 ≤ℤ (bounds held (sided held s) r h).1
  pub above_bottom : (r : Reading) (h : List Reading) → bottom held (pos s.full) ≤ℤ (bounds held (sided held s) r h).0
  pub below_top : (r : Reading) (h : List Reading) → (bounds held (sided held s) r h).1 ≤ℤ top held (pos s.full)
  pub lower : (r : Reading) (h : List Reading) (f : ℤ) → Contains (frequencies s.lag (r ∷ h)) f → (bounds held (sided held s) r h).0 ≤ℤ (sided held s).parts f
  pub upper : (r : Reading) (h : List Reading) (f : ℤ) → Contains (frequencies s.lag (r ∷ h)) f → (sided held s).parts f ≤ℤ (bounds held (sided held s) r h).1

-- The response is within 1 kW of the curve times the quantity, at the frequency of some reading in the window. (Both sides
-- are multiplied by full, and so is the 1 kW.)
abbrev pub Follows : Terms → Shape → Reading → List Reading → Type 0
Follows t s r h = (f : ℤ) × Contains (frequencies s.lag (r ∷ h)) f × (unsigned_abs (response s.full r -ℤ kilowatts t (s.parts f)) ≤ s.full)
