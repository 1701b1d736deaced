-- What is kept of a history to hold the next reading against. Assumes nothing.
use Rattle.std.specs.Prelude.{◌≡◌, ℕ, List, [], ◌∷◌, ℤ, pos, Some, None, Option}
use Rattle.curve.specs.Shape.{Shape}
use Rattle.curve.specs.declared.one_sided.Sides.{Sides}
use Rattle.rules.specs.declared.accepted.Accepted.{Accepted}
use Rattle.rules.specs.declared.reading.Reading.{Reading}
use Rattle.bounds.specs.Bounds.{raw, limited, bounds}
use Rattle.bounds.specs.Kept.{told, parts_of, slid, event, after, in_grace, is_gap}
use Rattle.bounds.specs.Window.{newest, frequencies}
use Rattle.bounds.specs.declared.errors.Bounded.{Bounded}
use Rattle.bounds.specs.declared.phase.Phase.{Phase}
use Rattle.bounds.specs.declared.phase.Phase.TheVariants.{Waiting}
use Rattle.bounds.specs.declared.track.Track.{Track}

-- The last accepted reading, if there is one.
abbrev pub reading_of : Option Bounded → Option Reading
reading_of None = None
reading_of (Some p) = Some p.reading.reading

-- Its bounds in parts, the lower first; (0, 0) before any reading.
abbrev pub bounds_of : Option Bounded → ℤ × ℤ
bounds_of None = (pos 0, pos 0)
bounds_of (Some p) = parts_of p.bounds

-- The first reading takes the raw bounds.
abbrev pub next_bounds : ℕ → Option Bounded → ℤ × ℤ → ℤ × ℤ
next_bounds ramp None now = now
next_bounds ramp (Some p) now = limited ramp (parts_of p.bounds) now

-- One reading more, in terms of what is kept.
pub record Stepped (held : Sides) (s : Shape) (r : Accepted) (a b : Track) : Type 0 where
  pub last : reading_of b.last ≡ Some r.reading
  pub phase : b.phase ≡ after s.lag a.phase (event held (reading_of a.last) r.reading)
  pub window : told b.window ≡ slid s.lag (is_gap (event held (reading_of a.last) r.reading)) (told a.window) r.reading.frequency
  pub bounds : bounds_of b.last ≡ next_bounds s.ramp a.last (raw held s (in_grace b.phase) (told b.window))

-- The phase after a history.
abbrev pub phase_of : Sides → ℕ → List Reading → Phase
phase_of held lag [] = Waiting
phase_of held lag (r ∷ h) = after lag (phase_of held lag h) (event held (newest h) r)

abbrev pub BoundsAre : Sides → Shape → List Reading → ℤ × ℤ → Type 0
BoundsAre held s [] b = Unit {0}
BoundsAre held s (r ∷ h) b = b ≡ bounds held s r h

-- What is kept is that of the history.
pub record Tracks (held : Sides) (s : Shape) (h : List Reading) (a : Track) : Type 0 where
  pub last : reading_of a.last ≡ newest h
  pub phase : a.phase ≡ phase_of held s.lag h
  pub window : told a.window ≡ frequencies s.lag h
  pub bounds : BoundsAre held s h (bounds_of a.last)
